use Rattle.std.proofs.Common.{refl}
use Rattle.aas_path_trees.specs.Children.{with_role}
use Rattle.aas_repo_elements.proofs.Replaced.{is_replaceable}
use Rattle.aas_repo_elements.proofs.replacing.is_replaceable.Goals as goal

pub returns : goal.returns
returns g c = λ is.
    is_replaceable (g.T.Table.kept c.args.table.now) c.args.path.now.steps
    c.in_ok-above.above.steps c.in-Ok.parent c.args.element.now
    (with_role c.args.element.now c.args.role) c.args.role
    c.replacing_elements_have_the_faults.ensures.alone c.edits_keep_valid.ensures
    c.edits_count.ensures c.requires.valid c.in_ok-above.ensures c.requires.whole refl
    (c.has_space.ensures c.if-not-has_space.false) c.requires.alike
    c.in-Ok.ensures.found (c.in_ok-is_faultless_in_role.ensures is)
