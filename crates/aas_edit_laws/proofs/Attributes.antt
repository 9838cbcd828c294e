-- Edits keep the attributes of the submodel.
use Rattle.std.proofs.Common.{List, [], ◌∷◌, Option, Some, None, refl}
use Rattle.std.specs.Option.{option_map_or}
use Rattle.aas_model.specs.declared.documents.Submodel.{Submodel}
use Rattle.aas_model.specs.declared.element.Element.{Element}
use Rattle.aas_model.specs.declared.element.Role.{Role}
use Rattle.aas_model.specs.declared.path.PathStep.{PathStep}
use Rattle.aas_path_trees.specs.Children.{role_of, with_role}
use Rattle.aas_path_trees.specs.Edits.{role_at, with_last_at, inserted, replaced, removed}
use Rattle.aas_path_trees.specs.ElementAt.{element_at}
use Rattle.aas_path_trees.specs.WithElement.{with_element}
use Rattle.aas_edit_laws.specs.Laws.{HasAttributesOf}

other_elements : (d : Submodel) (ks : List Element) → HasAttributesOf d (record d { kids = ks })
other_elements d ks = record { head = refl; kind = refl; semantics = refl; qualifiers = refl }

pub change_keeps_attributes : (d : Submodel) (p : List PathStep) (e : Element) → HasAttributesOf d (with_element d p e)
change_keeps_attributes d [] e = other_elements d d.kids
change_keeps_attributes d (s ∷ p) e = other_elements d _

pub insert_keeps_attributes : (d : Submodel) (p : List PathStep) (e : Element) → HasAttributesOf d (inserted d p e)
insert_keeps_attributes d p e = by_role (element_at d p) (role_at d p e)
  where
    by_role : (found : Option Element) (o : Option Role) → HasAttributesOf d (option_map_or (with_last_at d p e found) o d)
    by_role found None = other_elements d d.kids
    by_role None (Some r) = other_elements d _
    by_role (Some o) (Some r) = change_keeps_attributes d p _

pub replace_keeps_attributes : (d : Submodel) (p : List PathStep) (e : Element) → HasAttributesOf d (replaced d p e)
replace_keeps_attributes d p e = by_found (element_at d p)
  where
    by_found : (found : Option Element) → HasAttributesOf d (option_map_or (λ o. with_element d p (with_role e (role_of o))) found d)
    by_found None = other_elements d d.kids
    by_found (Some o) = change_keeps_attributes d p _

pub remove_keeps_attributes : (d : Submodel) (p : List PathStep) → HasAttributesOf d (removed d p)
remove_keeps_attributes d [] = other_elements d d.kids
remove_keeps_attributes d (s ∷ p) = other_elements d _
