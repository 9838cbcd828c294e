-- How far a replay has come, and what it leaves where it fails. This profile's own rule.
use Rattle.std.specs.Prelude.{◌≡◌, ℕ, List, Option, Some, None, take}
use Rattle.aas_journal.specs.Given.{IsGateOf}
use Rattle.aas_journal.specs.Image.{gate_of}
use Rattle.aas_journal.specs.declared.fault.OpenFault.{OpenFault}
use Rattle.aas_journal.specs.declared.fault.OpenFault.TheVariants.{NotInitialised, Damaged, Failed, NoMemory}
use Rattle.aas_store.specs.Documents.{Documents}
use Rattle.aas_repo_replay.specs.Replay.{Replays, StopsAt}

-- what is true of the documents where this fault is answered
abbrev pub IsReplayFault : List (List ℕ) → OpenFault → Documents → Type 0
IsReplayFault payloads NotInitialised d = ⊥
IsReplayFault payloads (Damaged at) d = (n : ℕ) × StopsAt payloads n d × (at ≡ gate_of payloads n)
IsReplayFault payloads Failed d = (n : ℕ) × Replays (take n payloads) d
IsReplayFault payloads NoMemory d = (n : ℕ) × Replays (take n payloads) d

-- the payloads before the gate at this place replay to these documents
pub record HasDone (payloads : List (List ℕ)) (gate : ℕ) (d : Documents) : Type 0 where
  pub n : ℕ
  pub at : IsGateOf payloads gate n
  pub replays : Replays (take n payloads) d

-- as far as the next gate, or to the end where there is none
abbrev pub HasDoneNext : List (List ℕ) → Documents → Option ℕ → Type 0
HasDoneNext payloads d None = Replays payloads d
HasDoneNext payloads d (Some gate) = HasDone payloads gate d
