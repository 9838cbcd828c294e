-- An element as a tree, and faults seen from above it.
use Rattle.std.proofs.Common.{◌≡◌, ◌∷◌, map}
use Rattle.aas_model.specs.declared.element.Element.{Element, out-Element, fold_out-Element}
use Rattle.aas_model.specs.declared.path.Fault.{Fault}
use Rattle.aas_model.specs.declared.path.PathStep.{PathStep}
use Rattle.aas_constraint_rules.specs.Sites.{own_of, Tree, node, trees, tree_over, tree_of}

pub tree_out : (e : Element) → tree_of e ≡ node (own_of e) (trees (map tree_of (out-Element e).kids))
unfolding tree_of
tree_out e = fold_out-Element Tree tree_over e

-- a fault, seen from one step above
abbrev pub under_fault : PathStep → Fault → Fault
under_fault s f = record f { path = record { steps = s ∷ f.path.steps } }
