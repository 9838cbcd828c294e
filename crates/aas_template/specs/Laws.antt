-- Laws of templates and instances.
use Rattle.std.specs.Prelude.{◌≡◌, ℕ, ◌≤◌, true, false, List, [], length, Some}
use Rattle.aas_model.specs.declared.documents.Submodel.{Submodel}
use Rattle.aas_model.specs.declared.element.Element.{Element}
use Rattle.aas_path_trees.specs.Children.{kids_of, is_list}
use Rattle.aas_path_trees.specs.Places.{element_in, element_in_all, Differ}
use Rattle.aas_constraint_rules.specs.Faults.{submodel, HasNoFault}
use Rattle.aas_template.specs.Differences.{submodel_differences}

-- siblings differ everywhere below e but in lists
abbrev pub DifferBelow : Element → Type 0
DifferBelow e = (q : List ℕ) (k : Element) → element_in q e ≡ Some k → is_list k ≡ false → Differ (kids_of k)

abbrev pub EachListHasOne : Submodel → Type 0
EachListHasOne d = (q : List ℕ) (e : Element) → element_in_all q d.kids ≡ Some e → is_list e ≡ true
    → length (kids_of e) ≤ 1

-- a submodel without faults, as each valid one is, conforms to itself where no list has two children
abbrev pub ConformToThemselves : Type 0
ConformToThemselves = (d : Submodel) → HasNoFault (submodel d) → EachListHasOne d → submodel_differences d d ≡ []
