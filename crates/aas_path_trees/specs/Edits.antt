-- What inserting, replacing and removing an element makes of a submodel: the operations PostSubmodelElement,
-- PutSubmodelElementByPath and DeleteSubmodelElementByPath and their kin of IDTA-01002-3-0. Which elements are
-- containers, and what a container takes, restates the classes of IDTA-01001-3-0.
use Rattle.std.specs.Prelude.{ℕ, Bool, true, false, if◌then◌else◌, List, [], ◌∷◌, ◌++◌, remove, Option, Some, None, option_and_then}
use Rattle.std.specs.Option.{option_map_or}
use Rattle.aas_model_names.specs.KindNames.{is_data_element}
use Rattle.aas_model.specs.Payload.{kind_of}
use Rattle.aas_model.specs.declared.documents.Submodel.{Submodel}
use Rattle.aas_model.specs.declared.element.Element.{Element, out-Element}
use Rattle.aas_model.specs.declared.element.Role.{Role}
use Rattle.aas_model.specs.declared.element.Role.TheVariants.{Member, Annotation, Statement}
use Rattle.aas_model.specs.declared.path.PathStep.{PathStep}
use Rattle.aas_model.specs.declared.payload.Payload.{Payload}
use Rattle.aas_model.specs.declared.payload.Payload.TheVariants as payload
use Rattle.aas_path_trees.specs.Children.{kids_of, role_of, is_list, with_kids, with_role}
use Rattle.aas_path_trees.specs.ElementAt.{child_by, element_at}
use Rattle.aas_path_trees.specs.WithElement.{with_child, with_element}

-- the role of a new child, for each container; none of other kinds
abbrev pub role_within : Payload → Option Role
role_within payload.SubmodelElementCollection = Some Member
role_within (payload.SubmodelElementList _ _ _ _) = Some Member
role_within (payload.Entity _ _ _) = Some Statement
role_within (payload.AnnotatedRelationshipElement _ _) = Some Annotation
role_within p = None

-- an annotation is a data element
abbrev pub fits_role : Element → Role → Bool
fits_role e Annotation = is_data_element (kind_of (out-Element e).payload)
fits_role e r = true

abbrev pub if_fits : Element → Role → Option Role
if_fits e r = if fits_role e r then Some r else None

-- the role that e has as a new child of the element o, if o takes it
abbrev pub role_under : Element → Element → Option Role
role_under o e = option_and_then (if_fits e) (role_within (out-Element o).payload)

abbrev pub role_under_found : Option Element → Element → Option Role
role_under_found found e = option_and_then (λ o. role_under o e) found

-- the role that e has as a new child of what a path leads to, if that takes it; the empty path leads to the submodel
abbrev pub role_at : Submodel → List PathStep → Element → Option Role
role_at d [] e = Some Member
role_at d (s ∷ p) e = role_under_found (element_at d (s ∷ p)) e

-- o with e as its last child
abbrev pub with_last : Element → Element → Role → Element
with_last o e r = with_kids o (kids_of o ++ with_role e r ∷ [])

abbrev pub with_last_at : Submodel → List PathStep → Element → Option Element → Role → Submodel
with_last_at d p e None r = record d { kids = d.kids ++ with_role e r ∷ [] }
with_last_at d p e (Some o) r = with_element d p (with_last o e r)

-- d with e as the last child of what a path leads to, in the role that it has there; d where that doesn't take it
abbrev pub inserted : Submodel → List PathStep → Element → Submodel
inserted d p e = option_map_or (with_last_at d p e (element_at d p)) (role_at d p e) d

-- d with e in the place and the role of the element to which a path leads
abbrev pub replaced : Submodel → List PathStep → Element → Submodel
replaced d p e = option_map_or (λ o. with_element d p (with_role e (role_of o))) (element_at d p) d

abbrev pub without_child : List Element → Option (ℕ × Element) → List Element
without_child ks None = ks
without_child ks (Some c) = remove ks c.0

-- ks without the element to which a step and then a path lead among them, its siblings in order
unfoldable pub removed_among : Bool → PathStep → List PathStep → List Element → List Element
removed_among l s [] ks = without_child ks (child_by l s ks)
removed_among l s (t ∷ p) ks = with_child (λ k. with_kids k (removed_among (is_list k) t p (kids_of k))) ks (child_by l s ks)

-- d without the element to which a path leads
abbrev pub removed : Submodel → List PathStep → Submodel
removed d [] = d
removed d (s ∷ p) = record d { kids = removed_among false s p d.kids }
