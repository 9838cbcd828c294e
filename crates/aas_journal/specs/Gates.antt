-- What the walk over a file's gates meets. This profile's own rule.
use Rattle.std.specs.Prelude.{◌≡◌, ◌≢◌, ℕ, ◌+◌, ◌<◌, ◌^◌, List, ◌∷◌, ◌++◌, ⊤, length}
use Rattle.std.specs.Int.{to_be_bytes, w32}
use Rattle.aas_journal.specs.Causes.{PassesEnd}
use Rattle.aas_journal.specs.Image.{IsImage, gate_of}
use Rattle.aas_journal.specs.declared.walk.Gate.{Gate}
use Rattle.aas_journal.specs.declared.walk.Gate.TheVariants.{Closed, Open, PastEnd}

-- What stands at a gate, and behind it, where these are the bytes from its place on: any other byte than 1; a record,
-- behind which the next gate has this place; or an open gate whose record passes the end.
abbrev pub StandsAt : List ℕ → ℕ → Gate → Type 0
StandsAt bytes at Closed = (byte : ℕ) × (rest : List ℕ) × (bytes ≡ byte ∷ rest) × (byte ≢ 1)
StandsAt bytes at (Open next) = (payload : List ℕ) × (rest : List ℕ) × (length payload < 2 ^ 32)
    × (bytes ≡ 1 ∷ (to_be_bytes w32 (length payload) ++ (payload ++ rest))) × (next ≡ at + (5 + length payload))
StandsAt bytes at PastEnd = (rest : List ℕ) × (bytes ≡ 1 ∷ rest) × PassesEnd rest

-- the next gate, if there is one, stands behind this place and before that
abbrev pub IsBetween : ℕ → ℕ → Gate → Type 0
IsBetween at size Closed = ⊤
IsBetween at size (Open next) = (at < next) × (next < size)
IsBetween at size PastEnd = ⊤

-- the closed gate of the file stands at this place
pub record IsClosedAt (file : List ℕ) (at : ℕ) : Type 0 where
  pub payloads : List (List ℕ)
  pub image : IsImage file payloads
  pub at_is : at ≡ gate_of payloads (length payloads)
