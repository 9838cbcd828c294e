use Rattle.std.proofs.Common.{refl, sym, subst}
use Rattle.aas_command.specs.declared.command.Command.TheVariants.{DropReference}
use Rattle.aas_step.proofs.Validity.{whole_without_references}
use Rattle.aas_step.specs.Causes.{lacks_reference}
use Rattle.aas_step.specs.Made.{without_references}
use Rattle.aas_repo_documents.proofs.Decided.{is_refused_or_no_memory}
use Rattle.aas_repo.proofs.Referred.{stays_whole}
use Rattle.aas_repo.proofs.references.drop_reference.Goals as goal
use Rattle.aas_repo_documents.specs.Decisions.{IsDecision}
use Rattle.aas_repo_documents.specs.declared.decision.Decision.{Decision}

pub put-requires : goal.put-requires
put-requires g c =
    let d = g.S.Store.documents c.args.store.now in
    stays_whole d c.args.id (without_references c.args.submodel) c.in-Ok.shell c.requires
    (whole_without_references c.args.submodel) (lacks_reference c.args.submodel) c.in-Ok.ensures

pub returns : goal.returns
returns g c =
    let d = g.S.Store.documents c.args.store.now in
    let command = DropReference c.args.id c.args.submodel in
    subst (λ (o : Decision). IsDecision c.args.has_room d command d o) (sym c.decision_of.ensures)
    (is_refused_or_no_memory c.args.has_room d d command c.in-Err.refusal c.in-Err.ensures refl)
