use Rattle.std.proofs.Common.{refl}
use Rattle.std.specs.Option.{option_copied}
use Rattle.aas_path_trees.specs.Children.{with_role}
use Rattle.aas_repo_elements.proofs.Inserted.{is_insertable}
use Rattle.aas_repo_elements.proofs.inserting.is_insertable.Goals as goal

pub returns : goal.returns
returns g c = λ is.
    is_insertable (g.T.Table.kept c.args.table.now) c.args.path.now.steps c.args.parent.now c.args.element.now
    (with_role c.args.element.now c.args.role) c.args.role (option_copied c.lead_of-lead.result)
    c.inserted_elements_have_the_faults.ensures.alone c.edits_keep_valid.ensures c.edits_count.ensures
    c.requires.valid c.requires.clear c.requires.whole c.requires.role refl c.requires.parent
    (c.is_named_in_list.ensures c.if-is_named_in_list.false)
    (c.has_space.ensures c.if-not-has_space.false) c.lead_of-lead.ensures
    (c.in_ok-is_faultless_in_role.ensures is)
