use Rattle.std.proofs.Common.{sym, ◌∙◌, true≢false}
use Rattle.aas_repo_documents.proofs.Accepted.{some_steps}
use Rattle.aas_repo_documents.proofs.Reached.{is_missing_at}
use Rattle.aas_repo_elements.proofs.Placed.{above_by_row, is_parent, submodel_above}
use Rattle.aas_repo_elements.proofs.placing.parent_at.Goals as goal

pub returns-then-is_empty-clause-found : goal.returns-then-is_empty-clause-found
returns-then-is_empty-clause-found g c =
    let s = g.T.Table.kept c.args.table.now in
    let p = c.args.path.now.steps in
    is_parent s p _ c.head.result.now c.head.ensures c.is_template-in_template.ensures
    (submodel_above s p (c.is_empty.ensures.0 c.if-is_empty.true))

pub returns-in_ok-element-in-Ok-clause-found : goal.returns-in_ok-element-in-Ok-clause-found
returns-in_ok-element-in-Ok-clause-found g c =
    let s = g.T.Table.kept c.args.table.now in
    let p = c.args.path.now.steps in
    is_parent s p _ c.head.result.now c.head.ensures c.is_template-in_template.ensures
    (above_by_row s p c.in-Ok.row c.in_ok-element-in-Ok.element (λ none.
    true≢false (sym (c.is_empty.ensures.1 none) ∙ c.if-is_empty.false))
    c.in-Ok.ensures.found c.in_ok-element-in-Ok.ensures.line)

pub returns-in-Err-clause-lost : goal.returns-in-Err-clause-lost
returns-in-Err-clause-lost g c = λ more other.
    let p = c.args.path.now.steps in
    is_missing_at (g.T.Table.kept c.args.table.now) p c.in-Err.missing.steps _ more
    (some_steps p (λ none. true≢false (sym (c.is_empty.ensures.1 none) ∙ c.if-is_empty.false)))
    c.in-Err.ensures.found.0 c.in-Err.ensures.found.1 c.not_found.ensures other
