use Rattle.std.proofs.Common.{sym, ◌∙◌}
use Rattle.aas_repo_elements.proofs.Inserted.{in_list}
use Rattle.aas_repo_elements.proofs.inserting.lead_of.Goals as goal
use Rattle.aas_repo_elements.specs.Placing.{own_of_parent}

pub returns : goal.returns
returns g c =
    in_list (g.T.Table.kept c.args.table.now) c.args.path.now.steps
    (own_of_parent c.args.parent.now) c.args.element.now _
    (sym c.is_list.ensures ∙ c.if-not-is_list.false) c.first_semantic_id.ensures
