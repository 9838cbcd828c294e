use Rattle.std.proofs.Common.{Result, subst, sym}
use Rattle.aas_answer.specs.Plans.{plan_text}
use Rattle.aas_http.specs.Steps.{message_of}
use Rattle.aas_http.specs.declared.replies.Reply.{Reply}
use Rattle.aas_repo.specs.Held.{Held, machine_state}
use Rattle.aas_rule.specs.State.{repository_of}
use Rattle.aas_session.specs.Answers.{Answers}
use Rattle.aas_session.specs.declared.machine.Stop.{Stop}
use Rattle.aas_api_service.specs.Turns.{Turns}
use Rattle.aas_api_service.proofs.Outcomes.{answers_asked, answers_refused, asked_of}
use Rattle.aas_api_service.proofs.Safe.{asks_question, same_unchanged}
use Rattle.aas_api_service.proofs.WellFormed.{asks_well}
use Rattle.aas_api_service.proofs.service.ServiceMachine.answer.Goals as goal

pub answer-requires-clause-well_formed : goal.answer-requires-clause-well_formed
answer-requires-clause-well_formed g c =
    let m = message_of c.args.request.now in
    asks_well m c.in-Ok.call.through c.in-Ok.call.ask (asked_of m c.in-Ok.call c.in-Ok.ensures)

pub returns-in-Ok-clause-answered : goal.returns-in-Ok-clause-answered
returns-in-Ok-clause-answered g c = λ records settled.
    let m = message_of c.args.request.now in
    answers_asked (g.K.Keeper.state c.args.self.now.repo.keeper).room_behind g.K.Keeper.stands_for _ _ _ m c.in-Ok.call _
    (asked_of m c.in-Ok.call c.in-Ok.ensures) (c.answer.ensures.answered records settled)

pub returns-in-Ok-clause-safe : goal.returns-in-Ok-clause-safe
returns-in-Ok-clause-safe g c = λ safe.
    let K = g.K.Keeper in
    let m = message_of c.args.request.now in
    let question =
    asks_question m c.in-Ok.call.through c.in-Ok.call.ask safe (asked_of m c.in-Ok.call c.in-Ok.ensures) in
    let still = c.answer.ensures.unchanged question.0 question.1 in
    (same_unchanged (λ (held : Held _). (machine_state K.state held).held) _ _ still.0, still.1)

pub returns-in-Err-clause-answered : goal.returns-in-Err-clause-answered
returns-in-Err-clause-answered g c = λ records settled.
    let K = g.K.Keeper in
    let room = (K.state c.args.self.now.repo.keeper).room_behind in
    let state = (machine_state K.state c.args.self.now.repo).held in
    let m = message_of c.args.request.now in
    let P : Result Reply Stop → Type 0 = λ a.
    Answers (Turns room) K.stands_for (repository_of state records) m state.moment state a in
    subst P (sym (c.whole.ensures.whole (plan_text c.args.self.now.repo.documents)))
    (answers_refused room K.stands_for state records settled m c.in-Err.refusal
    c.refuse.result c.in-Err.ensures c.refuse.ensures.refused)
