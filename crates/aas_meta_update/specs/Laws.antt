-- Laws of putting metadata.
use Rattle.std.specs.Prelude.{◌≡◌, ◌≢◌, List, [], ◌∷◌, ◌++◌, length, true, Some}
use Rattle.aas_json_table.specs.TooDeep.{limits}
use Rattle.aas_edit_laws.specs.Laws.{at_level}
use Rattle.aas_model.specs.declared.element.Role.TheVariants.{Member}
use Rattle.aas_model.specs.declared.documents.Submodel.{Submodel}
use Rattle.aas_model.specs.declared.element.Element.{Element}
use Rattle.aas_model_names.specs.declared.modifiers.Extent.{Extent}
use Rattle.aas_json_mapping.specs.Metadata.{IsWholeMetadata, metadata_form, submodel_metadata}
use Rattle.aas_json_mapping.specs.Whole.{is_whole_element, is_whole_submodel}
use Rattle.aas_model.specs.declared.path.PathStep.{PathStep}
use Rattle.aas_path_trees.specs.Children.{id_short_of, role_of, with_kids, with_role}
use Rattle.aas_path_trees.specs.ElementAt.{element_at}
use Rattle.aas_path_trees.specs.WithElement.{with_element}
use Rattle.aas_value.specs.ValueForm.{value_form, submodel_value}
use Rattle.aas_meta_update.specs.WithMetadata.{IsAlike, with_metadata, with_submodel_metadata}

-- the metadata form is the one that was put, in the role of the element
pub record MetadataIsPut : Type 0 where
  pub element : (e m : Element) → IsAlike e m → metadata_form (with_metadata e m) ≡ with_role (metadata_form m) (role_of e)
  pub submodel : (d m : Submodel) → submodel_metadata (with_submodel_metadata d m) ≡ submodel_metadata m

-- the value form stays
pub record ValuesStay : Type 0 where
  pub element : (x : Extent) (e m : Element) → IsAlike e m → value_form x (with_metadata e m) ≡ value_form x e
  pub submodel : (x : Extent) (d m : Submodel) → submodel_value x (with_submodel_metadata d m) ≡ submodel_value x d

-- ---- in a submodel

-- an element without its children
abbrev pub own_of : Element → Element
own_of e = with_kids e []

-- it has the same attributes of its own, and the same value form
pub record IsAsBefore (k w : Element) : Type 0 where
  pub own : own_of w ≡ own_of k
  pub value : (x : Extent) → value_form x w ≡ value_form x k

-- In u the path p leads to w in the place of o, and nothing else is another. Each other path is a front of p, goes on behind it, or parts from it.
pub record OnlyThere (d u : Submodel) (p : List PathStep) (w : Element) : Type 0 where
  pub there : element_at u p ≡ Some w
  pub above : (a b : List PathStep) (s : PathStep) (k : Element) → p ≡ a ++ s ∷ b → element_at d a ≡ Some k → (v : Element) × (element_at u a ≡ Some v) × IsAsBefore k v
  pub below : (c : List PathStep) (t : PathStep) → element_at u (p ++ t ∷ c) ≡ element_at d (p ++ t ∷ c)
  pub aside : (a b c : List PathStep) (s t : PathStep) → p ≡ a ++ s ∷ b → s ≢ t → element_at u (a ++ t ∷ c) ≡ element_at d (a ++ t ∷ c)
  pub value : (x : Extent) → submodel_value x u ≡ submodel_value x d

-- metadata that has the idShort of the element changes nothing else
abbrev pub OnlyMetadataChanges : Type 0
OnlyMetadataChanges = (d : Submodel) (p : List PathStep) (o m : Element) → element_at d p ≡ Some o → IsAlike o m → id_short_of m ≡ id_short_of o
    → OnlyThere d (with_element d p (with_metadata o m)) p (with_metadata o m)

-- a whole element with whole metadata is whole, as an element that stands by itself at its level
abbrev pub PutStaysWhole : Type 0
PutStaysWhole = (d : Submodel) (p : List PathStep) (o m : Element) → is_whole_submodel limits d ≡ true → element_at d p ≡ Some o → IsAlike o m
    → IsWholeMetadata limits m → is_whole_element (at_level (length p)) (with_role (with_metadata o m) Member) ≡ true
