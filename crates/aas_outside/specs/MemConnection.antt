-- A connection in memory, as its callers see it. This profile's own rule.
use Rattle.std.specs.Prelude.{ℕ, List, length, min}

pub record MemConnectionState : Type 0 where
  -- the bytes left to take
  pub left : List ℕ
  -- the bytes given
  pub sent : List ℕ
  -- how many bytes more can be given
  pub room : ℕ

-- how many bytes a take gets by which at most `piece` are moved, with so much room for them
abbrev pub taken_count : MemConnectionState → ℕ → ℕ → ℕ
taken_count connection piece room = min (min piece room) (length connection.left)
