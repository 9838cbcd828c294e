-- A submodel with another element in the place to which a path leads, and everything else as it was. This profile's own
-- rule: IDTA-01002-3-0 names the operations on an element, and not what they leave alone.
use Rattle.std.specs.Prelude.{ℕ, Bool, false, List, [], ◌∷◌, slice_set, Option, Some, None}
use Rattle.aas_model.specs.declared.documents.Submodel.{Submodel}
use Rattle.aas_model.specs.declared.element.Element.{Element}
use Rattle.aas_model.specs.declared.path.PathStep.{PathStep}
use Rattle.aas_path_trees.specs.Children.{kids_of, is_list, with_kids}
use Rattle.aas_path_trees.specs.ElementAt.{child_by}

-- ks with f of the child in its place
abbrev pub with_child : (Element → Element) → List Element → Option (ℕ × Element) → List Element
with_child f ks None = ks
with_child f ks (Some c) = slice_set ks c.0 (f c.1)

-- e with w in the place to which a path leads from e, and e where it leads nowhere
unfoldable pub with_below : List PathStep → Element → Element → Element
with_below [] e w = w
with_below (s ∷ p) e w = with_kids e (with_child (λ k. with_below p k w) (kids_of e) (child_by (is_list e) s (kids_of e)))

-- the same of ks, the children of a list or of something else
abbrev pub with_among : Bool → PathStep → List PathStep → List Element → Element → List Element
with_among l s p ks w = with_child (λ k. with_below p k w) ks (child_by l s ks)

-- d with w in the place to which a path leads, and d where it leads nowhere
abbrev pub with_element : Submodel → List PathStep → Element → Submodel
with_element d [] w = d
with_element d (s ∷ p) w = record d { kids = with_among false s p d.kids w }
