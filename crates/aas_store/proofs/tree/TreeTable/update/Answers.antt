use Rattle.std.proofs.Common.{◌≤◌, sym, ap, ◌∙◌, subst}
use Rattle.aas_path_trees.specs.Patched.{element_count}
use Rattle.aas_store.proofs.Counted.{as_many_patched}
use Rattle.aas_store.proofs.tree.TreeTable.update.Goals as goal

pub invariant_of-self : goal.invariant_of-self
invariant_of-self c =
    let same = ap element_count c.patch_at.ensures ∙ as_many_patched c.self.inside.submodel c.args.path.now.steps c.args.patch.rows in
    subst (λ n. n ≤ 65536) (sym same) c.self.invariant
