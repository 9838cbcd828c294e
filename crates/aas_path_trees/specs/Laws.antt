-- Laws of paths.
use Rattle.std.specs.Prelude.{◌≡◌, ℕ, ◌<◌, ◌≤◌, List, length, take, Some, None, IsSome}
use Rattle.aas_model.specs.declared.documents.Submodel.{Submodel}
use Rattle.aas_model.specs.declared.element.Element.{Element}
use Rattle.aas_model.specs.declared.path.PathStep.{PathStep}
use Rattle.aas_path_trees.specs.ElementAt.{element_at, depth_found}
use Rattle.aas_path_trees.specs.PathRule.{KeepsRule}
use Rattle.aas_path_trees.specs.Places.{element_in_all, place_at, SiblingsDiffer, StepsKeepRule}

-- one path alone leads to a place, and so to what stands there
pub record HasOnePath (d : Submodel) (q : List ℕ) (e : Element) : Type 0 where
  pub path : List PathStep
  pub leads : place_at d path ≡ Some q
  pub finds : element_at d path ≡ Some e
  pub keeps : StepsKeepRule d → KeepsRule path
  pub only : (p : List PathStep) → place_at d p ≡ Some q → p ≡ path

-- where siblings differ, each element has one path, and it can be written where its steps can
abbrev pub EachHasOnePath : Type 0
EachHasOnePath = (d : Submodel) (q : List ℕ) (e : Element) → SiblingsDiffer d → element_in_all q d.kids ≡ Some e → HasOnePath d q e

-- a path leads as far as depth_found says, and no further
pub record LeadsSoFar (d : Submodel) (p : List PathStep) : Type 0 where
  pub within : depth_found d p ≤ length p
  pub here : 0 < depth_found d p → IsSome (element_at d (take (depth_found d p) p))
  pub no_further : (n : ℕ) → depth_found d p < n → n ≤ length p → element_at d (take n p) ≡ None

abbrev pub EachLeadsSoFar : Type 0
EachLeadsSoFar = (d : Submodel) (p : List PathStep) → LeadsSoFar d p
