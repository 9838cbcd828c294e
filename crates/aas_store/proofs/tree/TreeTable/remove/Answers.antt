use Rattle.std.proofs.Common.{◌≤◌, IsSome, sym, subst, arith}
use Rattle.aas_model.specs.declared.documents.Submodel.{Submodel}
use Rattle.aas_path_trees.specs.Edits.{removed}
use Rattle.aas_path_trees.specs.ElementAt.{element_at}
use Rattle.aas_path_trees.specs.Patched.{element_count}
use Rattle.aas_store.proofs.Counted.{fewer_left}
use Rattle.aas_store.proofs.tree.TreeTable.remove.Goals as goal

pub invariant_of-self : goal.invariant_of-self
invariant_of-self c =
    let old = c.self.inside.submodel in
    let there = subst (λ (d : Submodel). IsSome (element_at d c.args.path.now.steps)) (sym c.self.view_is) c.requires in
    let fewer = fewer_left old c.args.path.now.steps there in
    let few : element_count (removed old c.args.path.now.steps) ≤ 65536 = omega (arith, fewer, c.self.invariant) in
    subst (λ (d : Submodel). element_count d ≤ 65536) (sym c.remove_at.ensures) few
