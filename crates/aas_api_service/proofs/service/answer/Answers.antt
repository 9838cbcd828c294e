use Rattle.std.proofs.Common.{Result, subst, sym}
use Rattle.aas_answer.specs.Plans.{plan_text}
use Rattle.aas_http.specs.declared.replies.Reply.{Reply}
use Rattle.aas_repo.specs.Held.{machine_state}
use Rattle.aas_session.specs.Answers.{Answers}
use Rattle.aas_session.specs.declared.machine.Stop.{Stop}
use Rattle.aas_rule.specs.State.{repository_of}
use Rattle.aas_api_service.specs.Turns.{CallComesTo}
use Rattle.aas_api_service.proofs.Outcomes.{answers_reached, answers_unreached}
use Rattle.aas_api_service.proofs.service.answer.Goals as goal

pub returns-in-Ok-clause-answered : goal.returns-in-Ok-clause-answered
returns-in-Ok-clause-answered g c = λ records settled.
    let K = g.K.Keeper in
    answers_reached (K.state c.args.repo.now.keeper).room_behind K.stands_for _ _ _ c.args.call _ c.in-Ok.ensures
    (c.answer_ask.ensures.answered records settled)

pub returns-in-Err-clause-answered : goal.returns-in-Err-clause-answered
returns-in-Err-clause-answered g c = λ records settled.
    let K = g.K.Keeper in
    let room = (K.state c.args.repo.now.keeper).room_behind in
    let state = (machine_state K.state c.args.repo.now).held in
    let P : Result Reply Stop → Type 0 =
    λ a. Answers (CallComesTo room) K.stands_for (repository_of state records) c.args.call state.moment state a in
    subst P (sym (c.whole.ensures.whole (plan_text c.args.repo.now.documents)))
    (answers_unreached room K.stands_for state records settled c.args.call
    c.in-Err.refusal c.refuse.result c.in-Err.ensures c.refuse.ensures.refused)
