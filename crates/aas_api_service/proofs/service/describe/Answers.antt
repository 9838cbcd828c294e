use Rattle.std.proofs.Common.{Ok, Err, subst}
use Rattle.aas_repo.specs.Held.{machine_state}
use Rattle.aas_store.specs.Documents.{Documents}
use Rattle.aas_api_service.proofs.Outcomes.{answers_described, answers_undescribed}
use Rattle.aas_api_service.proofs.WellDescribed.{OrNoCommand}
use Rattle.aas_api_service.proofs.service.describe.Goals as goal

pub returns-in-Ok-clause-answered : goal.returns-in-Ok-clause-answered
returns-in-Ok-clause-answered g c = λ records settled.
    let K = g.K.Keeper in
    let by = subst (λ (d : Documents). OrNoCommand d c.args.metadata (Ok c.in-Ok.command))
    c.store.ensures.documents c.in-Ok.ensures.described in
    answers_described (K.state c.args.repo.now.keeper).room_behind K.stands_for
    _ _ _ c.args.metadata c.in-Ok.command c.act.result by c.in-Ok.ensures.well_formed
    (c.act.ensures.answered records settled)

pub returns-in-Err-clause-answered : goal.returns-in-Err-clause-answered
returns-in-Err-clause-answered g c = λ records settled.
    let K = g.K.Keeper in
    let by = subst (λ (d : Documents). OrNoCommand d c.args.metadata (Err c.in-Err.refusal))
    c.store.ensures.documents c.in-Err.ensures.described in
    answers_undescribed (K.state c.args.repo.now.keeper).room_behind K.stands_for
    (machine_state K.state c.args.repo.now).held records settled c.args.metadata
    c.in-Err.refusal c.refuse.result by c.refuse.ensures.refused
