-- Updates of values (IDTA-01002-3-0, PatchSubmodelElementByPath and PatchSubmodel with ValueOnly). What is sent is laid
-- over the value form; what it leaves out stays. This profile's own rule.
use Rattle.std.specs.Prelude.{◌≡◌, List, [], ◌∷◌, Option, Some, option_map}
use Rattle.serde_json.specs.Data.{Data}
use Rattle.aas_model_names.specs.declared.modifiers.Extent.TheVariants as extent
use Rattle.aas_model.specs.declared.documents.Submodel.{Submodel}
use Rattle.aas_model.specs.declared.element.Element.{Element, roll-Element}
use Rattle.aas_model.specs.declared.element.Role.TheVariants as role
use Rattle.aas_model.specs.declared.path.PathStep.{PathStep}
use Rattle.aas_model.specs.declared.payload.Payload.TheVariants as payload
use Rattle.aas_path_trees.specs.ElementAt.{element_at}
use Rattle.aas_path_trees.specs.WithElement.{with_element}
use Rattle.aas_constraint_laws.specs.Values.{DifferInValues}
use Rattle.aas_model.specs.Common.{no_attributes}
use Rattle.aas_value.specs.ValueForm.{value_form}
use Rattle.aas_value_update.specs.Forms.{lay}
use Rattle.aas_value_update.specs.LeftAlone.{unshown}
use Rattle.aas_value_update.specs.Shape.{HasShape}

-- u is e after an update of its values by v
pub record IsElementUpdate (e : Element) (v : Data) (u : Element) : Type 0 where
  -- the same paths, kinds, roles and metadata
  pub metadata : DifferInValues e u
  -- each Operation and each Capability is as it was, and all that lies below it
  pub operations : unshown u ≡ unshown e
  -- v fits, and the value form is v laid over the old one
  pub shape : HasShape e v
  pub form : value_form extent.WithBlobValue u ≡ option_map (λ w. lay e w v) (value_form extent.WithBlobValue e)

-- ---- in a submodel

-- d' is d after an update of the element at p
pub record IsUpdateAt (d : Submodel) (p : List PathStep) (v : Data) (d' : Submodel) : Type 0 where
  pub old : Element
  pub new : Element
  pub found : element_at d p ≡ Some old
  pub update : IsElementUpdate old v new
  -- everything outside p is as it was
  pub outside : d' ≡ with_element d p new

-- a submodel as an object of its children, as a SubmodelElementCollection is one
abbrev pub body : Submodel → Element
body d = roll-Element (record {
  common = no_attributes;
  payload = payload.SubmodelElementCollection;
  role = role.Member;
  kids = d.kids;
})

-- what a path leads to, where the empty one leads to the submodel as an object of its children
abbrev pub valued_at : Submodel → List PathStep → Option Element
valued_at d [] = Some (body d)
valued_at d (s ∷ p) = element_at d (s ∷ p)

-- d' is d after an update of its children
pub record IsSubmodelUpdate (d : Submodel) (v : Data) (d' : Submodel) : Type 0 where
  pub update : IsElementUpdate (body d) v (body d')
  -- the submodel's own attributes are as they were
  pub outside : d' ≡ record d { kids = d'.kids }

-- d' is d after an update by v at p, where the empty path is the submodel itself
abbrev pub IsValueUpdate : Submodel → List PathStep → Data → Submodel → Type 0
IsValueUpdate d [] v d' = IsSubmodelUpdate d v d'
IsValueUpdate d (s ∷ p) v d' = IsUpdateAt d (s ∷ p) v d'
