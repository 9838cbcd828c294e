-- Why no repository is opened on a disk. This profile's own rule.
use Rattle.std.specs.Prelude.{◌≡◌, ℕ, List, ⊤}
use Rattle.aas_journal.specs.declared.fault.OpenFault.{OpenFault}
use Rattle.aas_journal.specs.declared.fault.OpenFault.TheVariants as fault
use Rattle.aas_outside_disk.specs.Files.{Files}
use Rattle.aas_server.specs.Answer.{Answer, damage, disk_failed, no_journal}
use Rattle.aas_server.specs.Opening.{Opens, StopsAtGate, damaged, not_initialised}

-- what is true of the files where this fault is answered
abbrev pub IsCause : Files → OpenFault → Type 0
IsCause files fault.NotInitialised = Opens files not_initialised
IsCause files (fault.Damaged at) = Opens files (damaged at)
IsCause files fault.Failed = ⊤
IsCause files fault.NoMemory = ⊤

-- what is true of the payloads
abbrev pub IsCauseIn : List (List ℕ) → OpenFault → Type 0
IsCauseIn payloads fault.NotInitialised = ⊥
IsCauseIn payloads (fault.Damaged at) = StopsAtGate payloads at
IsCauseIn payloads fault.Failed = ⊤
IsCauseIn payloads fault.NoMemory = ⊤

-- it is the answer to this fault; to want of memory there is none
abbrev pub IsAnswerTo : OpenFault → Answer → Type 0
IsAnswerTo fault.NotInitialised answer = answer ≡ no_journal
IsAnswerTo (fault.Damaged at) answer = answer ≡ damage at
IsAnswerTo fault.Failed answer = answer ≡ disk_failed
IsAnswerTo fault.NoMemory answer = ⊥
