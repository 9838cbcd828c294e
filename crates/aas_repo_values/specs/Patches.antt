-- Why an update of values is refused, and what stands for it where it isn't. This profile's own rule.
use Rattle.std.specs.Prelude.{◌≡◌, ◌≢◌, ℕ, Bool, false, List, ◌++◌, Some, None}
use Rattle.std.specs.FinMap as map
use Rattle.std.specs.Str.{encode_utf8_all}
use Rattle.serde_json.specs.Data.{Data}
use Rattle.aas_command.specs.declared.command.Command.{Command}
use Rattle.aas_command.specs.declared.refusal.Refusal.{Refusal}
use Rattle.aas_command.specs.declared.refusal.Refusal.TheVariants.{Constraint, Lexical, NoMemory, NoValueForm}
use Rattle.aas_command.specs.declared.refusal.Refusal.TheVariants.{Shape, StorageFault}
use Rattle.aas_constraint_laws.specs.Law.{behind}
use Rattle.aas_constraint_laws.specs.Valid.{IsValid}
use Rattle.aas_constraint_rules.specs.Faults.{submodel}
use Rattle.aas_model.specs.declared.documents.Submodel.{Submodel}
use Rattle.aas_model.specs.declared.patch.PatchRow.{PatchRow}
use Rattle.aas_model.specs.declared.path.PathStep.{PathStep}
use Rattle.aas_step.specs.Causes.{first_of, has_too_many, update_causes}
use Rattle.aas_step.specs.Step.{ComesTo, refused}
use Rattle.aas_store.specs.Documents.{Documents}
use Rattle.aas_store.specs.Edited.{FitsAt, patched_at}
use Rattle.aas_value_patch.specs.declared.preparing.ValueFault.{ValueFault}
use Rattle.aas_value_patch.specs.declared.preparing.ValueFault.TheVariants as fault
use Rattle.aas_value_update.specs.Update.{IsValueUpdate}

-- the refusal by the fault of what stands at p
abbrev pub refusal_behind : List PathStep → ValueFault → Refusal
refusal_behind p fault.NoValueForm = NoValueForm
refusal_behind p (fault.Shape q) = Shape (record { steps = p ++ q.steps })
refusal_behind p (fault.Lexical q) = Lexical (record { steps = p ++ q.steps })
refusal_behind p (fault.Constraint f) = Constraint (behind p f)
refusal_behind p fault.NoMemory = NoMemory

-- the command comes to this refusal, whether or not there is room to keep it
abbrev pub IsRefused : Documents → Command → Refusal → Type 0
IsRefused d c refusal = (refusal ≢ StorageFault) × ((has_room : Bool) → ComesTo has_room d c (refused refusal))

-- no cause refuses the update by v at p in the submodel of an identifier,
-- but that there is no room to keep it; and these rows make it
pub record IsPatchFor (d : Documents) (id : List ℕ) (p : List PathStep) (v : Data) (rows : List PatchRow) : Type 0 where
  pub old : Submodel
  pub there : map.get d.submodels (encode_utf8_all id) ≡ Some old
  pub no_cause : first_of (update_causes p v old) ≡ None
  pub fits : FitsAt old p rows
  pub update : IsValueUpdate old p v (patched_at old p rows)
  pub valid : IsValid (submodel (patched_at old p rows))
  pub few : has_too_many (submodel (patched_at old p rows)) ≡ false
