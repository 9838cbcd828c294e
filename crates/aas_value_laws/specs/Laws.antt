-- Laws of updates of values: which there are. What may be sent is what fits (`HasShape`), so there has to be an update
-- by each value that fits, and what is given out has to fit.
use Rattle.std.specs.Prelude.{◌≡◌, true, List, Some}
use Rattle.serde_json.specs.Data.{Data}
use Rattle.aas_model_names.specs.declared.modifiers.Extent.{Extent}
use Rattle.aas_model_names.specs.declared.modifiers.Extent.TheVariants as extent
use Rattle.aas_model.specs.declared.documents.Submodel.{Submodel}
use Rattle.aas_model.specs.declared.element.Element.{Element}
use Rattle.aas_model.specs.declared.path.PathStep.{PathStep}
use Rattle.aas_json_table.specs.TooDeep.{limits}
use Rattle.aas_json_spelling.specs.Values.{IsValue, IsOrdered, HasWholeNumbers}
use Rattle.aas_json_mapping.specs.Whole.{has_whole_parts}
use Rattle.aas_constraint_rules.specs.Faults.{submodel}
use Rattle.aas_constraint_laws.specs.Valid.{IsValid}
use Rattle.aas_value.specs.ValueForm.{value_form}
use Rattle.aas_value_update.specs.Forms.{lay}
use Rattle.aas_value_update.specs.Laws.{IsInOrder}
use Rattle.aas_value_update.specs.Shape.{HasShape}
use Rattle.aas_value_update.specs.Update.{IsElementUpdate, IsValueUpdate, valued_at}
use Rattle.aas_value_laws.specs.Full.{HasAllMembers}

-- there is an element that e is after an update by v
pub record HasUpdate (e : Element) (v : Data) : Type 0 where
  pub element : Element
  pub update : IsElementUpdate e v element

-- Each value that fits has an update. Its numbers are whole and of 64 bits: others are not read, or don't fit.
abbrev pub UpdateIsThere : Type 0
UpdateIsThere = (e : Element) (v : Data) → IsInOrder e → IsValue v → HasWholeNumbers v → HasShape e v → HasUpdate e v

-- there is a submodel that d is after an update by v at p
pub record HasValueUpdate (d : Submodel) (p : List PathStep) (v : Data) : Type 0 where
  pub submodel : Submodel
  pub update : IsValueUpdate d p v submodel

-- so it is in a valid submodel
abbrev pub ValueUpdateIsThere : Type 0
ValueUpdateIsThere =
    (d : Submodel) (p : List PathStep) (e : Element) (v : Data) → IsValid (submodel d) → valued_at d p ≡ Some e
    → IsValue v → HasWholeNumbers v → HasShape e v → HasValueUpdate d p v

-- The value form of an element whose parts are whole fits the element, with the values of Blobs and without them: what
-- is given out can be sent back.
abbrev pub OwnFormFits : Type 0
OwnFormFits =
    (x : Extent) (e : Element) (w : Data) → IsInOrder e → has_whole_parts limits e ≡ true → value_form x e ≡ Some w
    → HasShape e w

-- so it is in a valid submodel
abbrev pub OwnValueFits : Type 0
OwnValueFits = (x : Extent) (d : Submodel) (p : List PathStep) (e : Element) (w : Data) → IsValid (submodel d)
    → valued_at d p ≡ Some e → value_form x e ≡ Some w → HasShape e w

-- the value form leaves nothing out
abbrev pub OwnFormHasAll : Type 0
OwnFormHasAll = (e : Element) (w : Data) → IsInOrder e → value_form extent.WithBlobValue e ≡ Some w → HasAllMembers e w

-- What fits and leaves nothing out is the value form after the update, whatever that was before.
abbrev pub WholeValueIsLaid : Type 0
WholeValueIsLaid =
    (e : Element) (w v : Data) → IsInOrder e → value_form extent.WithBlobValue e ≡ Some w → IsOrdered v → HasShape e v
    → HasAllMembers e v → lay e w v ≡ v
