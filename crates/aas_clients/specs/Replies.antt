-- Replies. This profile's own rule.
use Rattle.std.specs.Prelude.{ℕ, List, Option}
use Rattle.std.specs.Io.KnownBytes.{append_known}

-- What a client is promised in all: what its socket took, and behind it what lies here of the replies.
abbrev pub promised : Option (List ℕ) → List ℕ → Option (List ℕ)
promised taken replies = append_known taken replies
