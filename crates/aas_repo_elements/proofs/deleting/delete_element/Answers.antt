use Rattle.std.proofs.Common.{sym, subst}
use Rattle.aas_command.specs.Commands.{IsWellFormed}
use Rattle.aas_command.specs.declared.command.Command.TheVariants.{DeleteElement}
use Rattle.aas_repo_elements.proofs.deleting.delete_element.Goals as goal
use Rattle.aas_repo_documents.proofs.Reached.{has_steps}
use Rattle.aas_repo_documents.specs.Decisions.{IsDecision}
use Rattle.aas_repo_documents.specs.declared.decision.Decision.{Decision}

pub find-requires : goal.find-requires
unfolding IsWellFormed
find-requires g c = has_steps c.args.path.steps c.requires.well_formed

pub returns : goal.returns
returns g c =
    let d = g.S.Store.documents c.args.store.now in
    subst (λ (o : Decision). IsDecision c.args.has_room d (DeleteElement c.args.id c.args.path) d o)
    (sym c.decision_of.ensures)
    (c.in-Err.ensures.lost c.args.has_room)
