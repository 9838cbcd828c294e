-- The law of place: in a submodel without faults a change of values breaks only what the changed element, and what lies below it, breaks by itself. This
-- profile's own rule.
use Rattle.std.specs.Prelude.{◌≡◌, true, IsTrue, List, [], ◌++◌, map, flat_map, Some, None}
use Rattle.aas_model.specs.declared.documents.Submodel.{Submodel}
use Rattle.aas_model.specs.declared.element.Element.{Element}
use Rattle.aas_model.specs.declared.path.Fault.{Fault}
use Rattle.aas_model.specs.declared.path.PathStep.{PathStep}
use Rattle.aas_json_mapping.specs.Whole.{has_whole_parts}
use Rattle.aas_json_table.specs.TooDeep.{limits}
use Rattle.aas_reference.specs.Rules.{failing}
use Rattle.aas_constraint_rules.specs.Faults.{fault, faults, submodel, HasNoFault}
use Rattle.aas_constraint_rules.specs.Rules.{holds_locally, rules}
use Rattle.aas_constraint_rules.specs.Sites.{Site, sites, tree_of}
use Rattle.aas_path_trees.specs.ElementAt.{element_at}
use Rattle.aas_path_trees.specs.WithElement.{with_element}
use Rattle.aas_constraint_laws.specs.Valid.{IsValid}
use Rattle.aas_constraint_laws.specs.Values.{DifferInValues}

-- the faults at a place that what stands there has by itself, wherever it stands
abbrev pub local_faults_at : Site → List Fault
local_faults_at x = map (fault x.path) (failing (λ s. holds_locally s x.own) rules)

-- the local faults of an element and of what lies below it, in preorder and then by number, with paths that begin at it
abbrev pub local_faults : Element → List Fault
local_faults e = flat_map local_faults_at (sites true None [] (tree_of e))

-- the same fault, seen from where the path p begins
abbrev pub behind : List PathStep → Fault → Fault
behind p f = record f { path = record { steps = p ++ f.path.steps } }

-- let e stand at p in a submodel without faults, and let u differ from e in values alone: with u for e it has the local faults of u, and no others
abbrev pub LawOfPlace : Type 0
LawOfPlace = (d : Submodel) (p : List PathStep) (e u : Element) → HasNoFault (submodel d) → element_at d p ≡ Some e → DifferInValues e u
    → faults (with_element d p u) ≡ map (behind p) (local_faults u)

-- so a valid submodel stays valid, where u has whole parts and no local fault
abbrev pub ValidAfterChange : Type 0
ValidAfterChange = (d : Submodel) (p : List PathStep) (e u : Element) → IsValid (submodel d) → element_at d p ≡ Some e → DifferInValues e u
    → IsTrue (has_whole_parts limits u) → local_faults u ≡ [] → IsValid (submodel (with_element d p u))
