-- Laws of payloads.
use Rattle.std.specs.Prelude.{◌≡◌, ◌⊎◌, ℕ, List, Result, Ok, Err, MatchResult}
use Rattle.aas_command.specs.declared.command.Command.{Command}
use Rattle.aas_record.specs.Records.{IsRecord, IsNoRecord, IsRecordFault}
use Rattle.aas_record.specs.declared.fault.RecordFault.{RecordFault}
use Rattle.aas_record.specs.declared.fault.RecordFault.TheVariants.{NoMemory}

-- a payload is that of one command alone
abbrev pub IsOfOneCommand : Type 0
IsOfOneCommand = (payload : List ℕ) (c d : Command) → IsRecord payload c → IsRecord payload d → c ≡ d

-- that of a command goes wrong nowhere
abbrev pub RecordsAreRight : Type 0
RecordsAreRight = (payload : List ℕ) (c : Command) (at : ℕ) → IsRecord payload c → ¬ (IsNoRecord payload at)

-- another one goes wrong at one place alone
abbrev pub GoesWrongOnce : Type 0
GoesWrongOnce = (payload : List ℕ) (at other : ℕ) → IsNoRecord payload at → IsNoRecord payload other → at ≡ other

-- given the payload of a command, what answers as `decode` does answers that command, unless memory was refused
abbrev pub PayloadsReadBack : Type 0
PayloadsReadBack = (payload : List ℕ) (c : Command) (result : Result Command RecordFault) → IsRecord payload c
    → MatchResult result (IsRecord payload) (IsRecordFault payload)
    → (result ≡ Ok c) ⊎ (result ≡ Err NoMemory)
