-- What an edit leaves alone: where two paths part, an edit at one changes nothing at the other. This profile's own rule:
-- IDTA-01002-3-0 names the operations on an element, and not what they leave alone.
use Rattle.std.specs.Prelude.{◌≡◌, ◌≢◌, ◌-◌, nat_lt, if◌then◌else◌, List, [], ◌∷◌, ◌++◌, Some, IsSome}
use Rattle.aas_model.specs.declared.documents.Submodel.{Submodel}
use Rattle.aas_model.specs.declared.element.Element.{Element}
use Rattle.aas_model.specs.declared.path.PathStep.{PathStep}
use Rattle.aas_model.specs.declared.path.PathStep.TheVariants.{Place}
use Rattle.aas_path_trees.specs.Children.{id_short_of}
use Rattle.aas_path_trees.specs.Edits.{inserted, replaced, removed}
use Rattle.aas_path_trees.specs.ElementAt.{element_at}

-- Both paths begin with the steps a, and then one goes on by the step s and the other by another step t.

-- an inserted element is a last child, so what stood before it is found where it was
pub record InsertLeavesOthers : Type 0 where
  pub aside : (d : Submodel) (e : Element) (a b c : List PathStep) (s t : PathStep) → s ≢ t
      → element_at (inserted d (a ++ s ∷ b) e) (a ++ t ∷ c) ≡ element_at d (a ++ t ∷ c)
  pub beside : (d : Submodel) (e : Element) (p c : List PathStep) (t : PathStep) (k : Element) → element_at d (p ++ t ∷ c) ≡ Some k
      → element_at (inserted d p e) (p ++ t ∷ c) ≡ Some k

-- an element in the place of another that has the same idShort
abbrev pub ReplaceLeavesOthers : Type 0
ReplaceLeavesOthers = (d : Submodel) (e o : Element) (a b c : List PathStep) (s t : PathStep) → s ≢ t
    → element_at d (a ++ s ∷ b) ≡ Some o → id_short_of e ≡ id_short_of o
    → element_at (replaced d (a ++ s ∷ b) e) (a ++ t ∷ c) ≡ element_at d (a ++ t ∷ c)

-- the step that leads where t led, after the element to which s led is taken out: a place behind it moves up
abbrev pub moved_up : PathStep → PathStep → PathStep
moved_up (Place i) (Place j) = Place (if nat_lt i j then j - 1 else j)
moved_up s t = t

-- what is removed stands beside the way of the other path, or below an element beside it
pub record RemoveLeavesOthers : Type 0 where
  pub beside : (d : Submodel) (a c : List PathStep) (s t : PathStep) → s ≢ t → IsSome (element_at d (a ++ s ∷ []))
      → element_at (removed d (a ++ s ∷ [])) (a ++ moved_up s t ∷ c) ≡ element_at d (a ++ t ∷ c)
  pub aside : (d : Submodel) (a b c : List PathStep) (s t u : PathStep) → s ≢ t
      → element_at (removed d (a ++ s ∷ u ∷ b)) (a ++ t ∷ c) ≡ element_at d (a ++ t ∷ c)
