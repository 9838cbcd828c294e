use Rattle.std.proofs.Common.{refl, sym, subst}
use Rattle.aas_command.specs.declared.command.Command.TheVariants.{AddReference}
use Rattle.aas_step.proofs.Validity.{whole_with_reference}
use Rattle.aas_step.specs.Causes.{has_same}
use Rattle.aas_step.specs.Made.{with_reference}
use Rattle.aas_repo_documents.proofs.Decided.{is_refused_or_no_memory}
use Rattle.aas_repo.proofs.Referred.{stays_whole}
use Rattle.aas_repo.proofs.references.add_reference.Goals as goal
use Rattle.aas_repo_documents.specs.Decisions.{IsDecision}
use Rattle.aas_repo_documents.specs.declared.decision.Decision.{Decision}

pub put-requires : goal.put-requires
put-requires g c =
    let d = g.S.Store.documents c.args.store.now in
    let r = c.args.reference in
    stays_whole d c.args.id (with_reference r) c.in-Ok.shell c.requires.valid
    (λ s whole. whole_with_reference r s c.requires.whole whole) (has_same r) c.in-Ok.ensures

pub returns : goal.returns
returns g c =
    let d = g.S.Store.documents c.args.store.now in
    let command = AddReference c.args.id c.args.reference in
    subst (λ (o : Decision). IsDecision c.args.has_room d command d o) (sym c.decision_of.ensures)
    (is_refused_or_no_memory c.args.has_room d d command c.in-Err.refusal c.in-Err.ensures refl)
