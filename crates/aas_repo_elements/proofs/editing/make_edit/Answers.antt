use Rattle.std.proofs.Common.{sym, subst}
use Rattle.aas_repo_documents.specs.Decisions.{IsDecision}
use Rattle.aas_repo_documents.specs.declared.decision.Decision.{Decision}
use Rattle.aas_repo_elements.proofs.editing.make_edit.Goals as goal

pub returns-in-Err : goal.returns-in-Err
returns-in-Err g c =
    let d = g.S.Store.documents c.args.store.now in
    subst (λ (o : Decision). IsDecision c.args.has_room d (g.E.Edit.command c.args.edit c.args.id) d o)
    (sym c.decision_of.ensures)
    (c.in-Err.ensures.refused c.args.has_room)
