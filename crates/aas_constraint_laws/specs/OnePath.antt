-- Validity and paths: the constraints AASd-022, AASd-117 and AASd-134 of IDTA-01001-3-0 make siblings differ, so that each element of a submodel without
-- faults has one path. AASd-002 and the length of an idShort let that path be written.
use Rattle.std.specs.Prelude.{◌≡◌, ℕ, List, Some}
use Rattle.aas_model.specs.declared.documents.Submodel.{Submodel}
use Rattle.aas_model.specs.declared.element.Element.{Element}
use Rattle.aas_constraint_rules.specs.Faults.{submodel, HasNoFault}
use Rattle.aas_path_trees.specs.Laws.{HasOnePath}
use Rattle.aas_path_trees.specs.PathRule.{KeepsRule}
use Rattle.aas_path_trees.specs.Places.{element_in_all, PlacesKeepRule, SiblingsDiffer}

abbrev pub FaultlessSiblingsDiffer : Type 0
FaultlessSiblingsDiffer = (d : Submodel) → HasNoFault (submodel d) → SiblingsDiffer d

-- e has one path, which can be written where the lists aren't too long
pub record HasOneWrittenPath (d : Submodel) (q : List ℕ) (e : Element) : Type 0 where
  pub one : HasOnePath d q e
  pub written : PlacesKeepRule d → KeepsRule one.path

abbrev pub FaultlessElementsHaveOnePath : Type 0
FaultlessElementsHaveOnePath = (d : Submodel) (q : List ℕ) (e : Element) → HasNoFault (submodel d) → element_in_all q d.kids ≡ Some e → HasOneWrittenPath d q e
