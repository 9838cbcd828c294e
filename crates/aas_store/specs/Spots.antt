-- Where elements stand in preorder, an element before those below it, counted from the first child of a submodel on. This
-- profile's own rule.
use Rattle.std.specs.Prelude.{ℕ, ◌+◌, Bool, false, List, [], ◌∷◌, length, map, take, slice_get, Option, Some, None, option_map, option_and_then}
use Rattle.std.specs.List.{flat_map}
use Rattle.std.specs.Str.{chars}
use Rattle.aas_model.specs.Element.{kind_of}
use Rattle.aas_model.specs.declared.documents.Submodel.{Submodel}
use Rattle.aas_model.specs.declared.element.Element.{Element, Element-F, roll-Element, fold-Element}
use Rattle.aas_model.specs.declared.path.PathStep.{PathStep}
use Rattle.aas_model.specs.declared.path.PathStep.TheVariants as path
use Rattle.aas_path_trees.specs.Children.{kids_of, is_list}
use Rattle.aas_path_trees.specs.ElementAt.{child_by}
use Rattle.aas_rows.specs.Edits.{rank_among}
use Rattle.aas_store.specs.declared.spot.Spot.{Spot}
use Rattle.aas_store.specs.declared.spot.StepRef.{StepRef}
use Rattle.aas_store.specs.declared.spot.StepRef.TheVariants as step

-- an element, and the list of it and all below it
abbrev pub Listed : Type 0
Listed = Element × List Element

abbrev pub listed_over : Element-F Listed → Listed
listed_over e =
    let own = roll-Element (record { common = e.common; payload = e.payload; role = e.role; kids = map (λ f. f.0) e.kids }) in
    (own, own ∷ flat_map (λ f. f.1) e.kids)

-- an element and all below it, in preorder
unfoldable pub elements : Element → List Element
elements e = (fold-Element Listed listed_over e).1

abbrev pub elements_of_all : List Element → List Element
elements_of_all ks = flat_map elements ks

abbrev pub step_of : StepRef → PathStep
step_of (step.Name name) = path.Name (chars name.now)
step_of (step.Place place) = path.Place place

-- the child to which a step leads among ks, the first of which has the rank n
abbrev pub spot_among : Bool → List Element → ℕ → PathStep → Option Spot
spot_among l ks n s = option_map (λ c. record { rank = n + length (elements_of_all (take c.0 ks)); kind = kind_of c.1 }) (child_by l s ks)

-- the child to which a step leads from the element of a rank, or from the submodel
abbrev pub spot_below : Submodel → Option ℕ → PathStep → Option Spot
spot_below d None s = spot_among false d.kids 0 s
spot_below d (Some n) s = option_and_then (λ e. spot_among (is_list e) (kids_of e) (n + 1) s) (slice_get (elements_of_all d.kids) n)

-- the rank of the element to which a path leads; the empty path leads to none
abbrev pub rank_at : Submodel → List PathStep → Option ℕ
rank_at d [] = None
rank_at d (s ∷ p) = rank_among false s p d.kids
