-- What is read at a gate of a journal. This profile's own rule.
use Rattle.std.specs.Prelude.{◌≡◌, ◌≤◌, ℕ, ◌+◌, List, ◌++◌, length, slice_get, Option, Some, None}
use Rattle.aas_journal.specs.Image.{gate_of}

-- the gate at this place stands behind the first n of the payloads
pub record IsGateOf (payloads : List (List ℕ)) (at n : ℕ) : Type 0 where
  pub within : n ≤ length payloads
  pub at_is : at ≡ gate_of payloads n

-- At the gate behind the first n payloads the next one is appended,
-- and the gate behind it is told; at the last gate nothing.
abbrev pub GivesNext : List (List ℕ) → ℕ → List ℕ → List ℕ → Option ℕ → Type 0
GivesNext payloads n old new None = (n ≡ length payloads) × (new ≡ old)
GivesNext payloads n old new (Some next) =
    (payload : List ℕ) × (slice_get payloads n ≡ Some payload) × (new ≡ old ++ payload)
    × (next ≡ gate_of payloads (n + 1))
