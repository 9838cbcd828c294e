-- The element to which a path leads (IDTA-01002-3-0, idShortPath). A name steps to the first child that has it for its
-- idShort, from everything but a SubmodelElementList; a place steps into a SubmodelElementList. That a name leads to
-- the variables of an Operation too is this profile's own rule.
use Rattle.std.specs.Prelude.{ℕ, ◌+◌, Bool, false, if◌then◌else◌, List, [], ◌∷◌, length, nat_lt, slice_get, bytes_eq, Option, Some, None, option_and_then, option_map}
use Rattle.std.specs.List.{position}
use Rattle.std.specs.Option.{option_map_or}
use Rattle.aas_model.specs.declared.documents.Submodel.{Submodel}
use Rattle.aas_model.specs.declared.element.Element.{Element}
use Rattle.aas_model.specs.declared.path.PathStep.{PathStep}
use Rattle.aas_model.specs.declared.path.PathStep.TheVariants.{Name, Place}
use Rattle.aas_path_trees.specs.Children.{kids_of, id_short_of, is_list}

abbrev pub is_text : List ℕ → Option (List ℕ) → Bool
is_text n None = false
is_text n (Some m) = bytes_eq m n

-- the place of the first child of this idShort
abbrev pub place_named : List ℕ → List Element → Option ℕ
place_named n ks = position (λ k. is_text n (id_short_of k)) ks

abbrev pub place_within : ℕ → List Element → Option ℕ
place_within i ks = if nat_lt i (length ks) then Some i else None

-- the place to which a step leads among ks, the children of a list or of something else
unfoldable pub place_of : Bool → PathStep → List Element → Option ℕ
place_of l (Name n) ks = if l then None else place_named n ks
place_of l (Place i) ks = if l then place_within i ks else None

-- the child to which a step leads, behind its place
unfoldable pub child_by : Bool → PathStep → List Element → Option (ℕ × Element)
child_by l s ks = option_and_then (λ i. option_map (λ k. (i, k)) (slice_get ks i)) (place_of l s ks)

-- the element to which a path leads from e
unfoldable pub element_below : List PathStep → Element → Option Element
element_below [] e = Some e
element_below (s ∷ p) e = option_and_then (λ c. element_below p c.1) (child_by (is_list e) s (kids_of e))

-- the element to which a step and then a path lead among ks, the children of a list or of something else
abbrev pub element_among : Bool → PathStep → List PathStep → List Element → Option Element
element_among l s p ks = option_and_then (λ c. element_below p c.1) (child_by l s ks)

-- the element to which a path leads in a submodel; the empty path leads to none
abbrev pub element_at : Submodel → List PathStep → Option Element
element_at d [] = None
element_at d (s ∷ p) = element_among false s p d.kids

-- the children of what a path leads to; the empty path leads to the submodel itself
abbrev pub children_at : Submodel → List PathStep → List Element
children_at d [] = d.kids
children_at d (s ∷ p) = option_map_or kids_of (element_at d (s ∷ p)) []

-- how many steps of a path lead to an element, from e
unfoldable pub depth_below : List PathStep → Element → ℕ
depth_below [] e = 0
depth_below (s ∷ p) e = option_map_or (λ c. depth_below p c.1 + 1) (child_by (is_list e) s (kids_of e)) 0

abbrev pub depth_among : Bool → PathStep → List PathStep → List Element → ℕ
depth_among l s p ks = option_map_or (λ c. depth_below p c.1 + 1) (child_by l s ks) 0

-- the length of the longest part from the front of a path that leads to an element, 0 for the submodel itself
abbrev pub depth_found : Submodel → List PathStep → ℕ
depth_found d [] = 0
depth_found d (s ∷ p) = depth_among false s p d.kids
