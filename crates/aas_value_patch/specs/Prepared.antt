-- What is prepared for a sent value, and why it can't be taken.
use Rattle.std.specs.Prelude.{◌≡◌, ◌⊎◌, ◌==◌, if◌then◌else◌, List, [], Some, None, IsSome, ⊤}
use Rattle.serde_json.specs.Data.{Data}
use Rattle.aas_model_names.specs.declared.modifiers.Extent.TheVariants as extent
use Rattle.aas_model.specs.declared.documents.Submodel.{Submodel}
use Rattle.aas_model.specs.declared.element.Element.{Element, out-Element}
use Rattle.aas_model.specs.declared.patch.PatchRow.{PatchRow}
use Rattle.aas_model.specs.declared.payload.Payload.{Payload}
use Rattle.aas_path_trees.specs.Patched.{Fits, kinds, patched}
use Rattle.aas_model.specs.declared.path.Fault.{Fault}
use Rattle.aas_reference.specs.Rules.{first}
use Rattle.aas_constraint_rules.specs.Faults.{faults}
use Rattle.aas_constraint_laws.specs.Law.{local_faults}
use Rattle.aas_value.specs.ValueForm.{value_form}
use Rattle.aas_value_update.specs.Laws.{IsInOrder}
use Rattle.aas_value_update.specs.Shape.{first_misshapen}
use Rattle.aas_value_update.specs.Update.{IsElementUpdate, IsSubmodelUpdate, body}
use Rattle.aas_value_patch.specs.declared.preparing.ValueFault.{ValueFault}
use Rattle.aas_value_patch.specs.declared.preparing.ValueFault.TheVariants as fault

-- number 0 is a lexical rule
abbrev pub fault_by : Fault → ValueFault
fault_by f = if f.number == 0 then fault.Lexical f.path else fault.Constraint f

-- the update of e by v has f for its first fault, of those that it has by itself
pub record Breaks (e : Element) (v : Data) (f : Fault) : Type 0 where
  pub new : Element
  pub update : IsElementUpdate e v new
  pub first : first (local_faults new) ≡ Some f

abbrev pub IsValueFault : Element → Data → ValueFault → Type 0
IsValueFault e v fault.NoValueForm = value_form extent.WithBlobValue e ≡ None
IsValueFault e v (fault.Shape path) =
    IsSome (value_form extent.WithBlobValue e) × (first_misshapen e v ≡ Some path.steps)
IsValueFault e v (fault.Lexical path) = Breaks e v (record { number = 0; path = path })
IsValueFault e v (fault.Constraint f) = Breaks e v f × ¬ (f.number ≡ 0)
IsValueFault e v fault.NoMemory = ⊤

-- what is left of e where it can't take v: e itself, or its update by v, where that is what breaks a rule
abbrev pub IsLeft : Element → Data → ValueFault → Element → Type 0
IsLeft e v fault.NoValueForm u = u ≡ e
IsLeft e v (fault.Shape path) u = u ≡ e
IsLeft e v (fault.Lexical path) u = IsElementUpdate e v u
IsLeft e v (fault.Constraint f) u = IsElementUpdate e v u
IsLeft e v fault.NoMemory u = (u ≡ e) ⊎ IsElementUpdate e v u

-- ---- a submodel

-- the update of d by v has f for its first fault
pub record SubmodelBreaks (d : Submodel) (v : Data) (f : Fault) : Type 0 where
  pub new : Submodel
  pub update : IsSubmodelUpdate d v new
  pub first : first (faults new) ≡ Some f

-- why d can't take v: it always has a value form
abbrev pub IsSubmodelFault : Submodel → Data → ValueFault → Type 0
IsSubmodelFault d v fault.NoValueForm = ⊥
IsSubmodelFault d v (fault.Shape path) = first_misshapen (body d) v ≡ Some path.steps
IsSubmodelFault d v (fault.Lexical path) = SubmodelBreaks d v (record { number = 0; path = path })
IsSubmodelFault d v (fault.Constraint f) = SubmodelBreaks d v f × ¬ (f.number ≡ 0)
IsSubmodelFault d v fault.NoMemory = ⊤

-- ---- an element alone

-- e has these attributes of its kind, and is as an element of a valid submodel is
pub record Bears (x : Payload) (e : Element) : Type 0 where
  pub payload : (out-Element e).payload ≡ x
  pub order : IsInOrder e
  pub faultless : local_faults e ≡ []

-- by these rows e takes v, and breaks nothing by itself
pub record IsPreparedFor (e : Element) (v : Data) (rows : List PatchRow) : Type 0 where
  pub fits : Fits (kinds e) rows
  pub update : IsElementUpdate e v (patched rows e 0).0
  pub faultless : local_faults (patched rows e 0).0 ≡ []
