-- Laws of commands.
use Rattle.std.specs.Prelude.{◌≡◌, Bool, false}
use Rattle.aas_model.specs.declared.documents.Submodel.{Submodel}
use Rattle.aas_constraint_laws.specs.Valid.{IsValid}
use Rattle.aas_constraint_rules.specs.Faults.{submodel}
use Rattle.aas_command.specs.Commands.{IsWellFormed}
use Rattle.aas_command.specs.declared.command.Command.{Command}
use Rattle.aas_rule.specs.Rule.{Repository, Room}
use Rattle.aas_store.specs.Documents.{Documents}
use Rattle.aas_store.specs.Storable.{IsStorable}
use Rattle.aas_step.specs.Causes.{has_too_many}
use Rattle.aas_step.specs.Step.{Result, accepted, ComesTo, Steps}
use Rattle.aas_step.specs.Valid.{AreValid}

-- in valid documents a command comes to one result
abbrev pub OneResult : Type 0
OneResult = (room : Room) (r : Repository Documents) (c : Command) (x y : Result)
    → AreValid r.documents → Steps room r c x → Steps room r c y → x ≡ y

-- an accepted command leaves every constraint true
abbrev pub StaysValid : Type 0
StaysValid = (has_room : Bool) (d new : Documents) (c : Command)
    → IsWellFormed c → AreValid d → ComesTo has_room d c (accepted new) → AreValid new

-- a store takes each valid submodel that has few elements
abbrev pub ValidIsStorable : Type 0
ValidIsStorable = (d : Submodel) → IsValid (submodel d) → has_too_many (submodel d) ≡ false → IsStorable d
