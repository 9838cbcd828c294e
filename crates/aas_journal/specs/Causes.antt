-- Why no journal is made or opened. This profile's own rule.
use Rattle.std.specs.Prelude.{◌≡◌, ◌⊎◌, ℕ, ◌+◌, ◌<◌, ◌≤◌, List, [], ⊤, length, take}
use Rattle.std.specs.Int.{from_be_bytes, w32}
use Rattle.aas_outside_disk.specs.Files.{Files}
use Rattle.aas_journal.specs.Image.{HasGate, IsHeader, gate_of}
use Rattle.aas_journal.specs.declared.fault.OpenFault.{OpenFault}
use Rattle.aas_journal.specs.declared.fault.OpenFault.TheVariants.{NotInitialised, Damaged, Failed, NoMemory}

-- the three files are empty
abbrev pub AreEmpty : Files → Type 0
AreEmpty files = (files.main ≡ []) × (files.spare ≡ []) × (files.selector ≡ [])

-- the file has fewer than 9 bytes or another header
abbrev pub IsNotInitialised : List ℕ → Type 0
IsNotInitialised file = (length file < 9) ⊎ ¬ (IsHeader (take 8 file))

-- what follows an open gate has no room for the length, as many bytes and one more gate
abbrev pub PassesEnd : List ℕ → Type 0
PassesEnd rest = length rest ≤ 4 + from_be_bytes w32 (take 4 rest)

-- the first gate whose record passes the end is open and stands at this place
pub record IsDamaged (file : List ℕ) (at : ℕ) : Type 0 where
  pub payloads : List (List ℕ)
  pub rest : List ℕ
  pub has : HasGate file payloads 1 rest
  pub passes : PassesEnd rest
  pub at_is : at ≡ gate_of payloads (length payloads)

-- what is true of the file where this fault is answered
abbrev pub HasFault : List ℕ → OpenFault → Type 0
HasFault file NotInitialised = IsNotInitialised file
HasFault file (Damaged at) = IsDamaged file at
HasFault file Failed = ⊤
HasFault file NoMemory = ⊥
