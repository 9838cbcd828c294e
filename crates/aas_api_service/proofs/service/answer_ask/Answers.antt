use Rattle.std.proofs.Common.{subst}
use Rattle.aas_answer.specs.Answers.{answer_of}
use Rattle.aas_repo.specs.Held.{machine_state}
use Rattle.aas_store.specs.Documents.{Documents}
use Rattle.aas_api_service.specs.Finished.{IsReply, whole_of}
use Rattle.aas_api_service.specs.Turns.{answer_reply}
use Rattle.aas_api_service.proofs.Outcomes.{answers_question}
use Rattle.aas_api_service.proofs.service.answer_ask.Goals as goal

pub returns-in-Answer-clause-answered : goal.returns-in-Answer-clause-answered
returns-in-Answer-clause-answered g c = λ records settled.
    let K = g.K.Keeper in
    let q = c.in-Answer.question in
    let state = (machine_state K.state c.args.repo.now).held in
    let told = subst (λ (d : Documents). IsReply (answer_reply q (answer_of d q)) (whole_of d c.tell.result))
    c.store.ensures.documents c.tell.ensures.told in
    rw c.in-Answer.is
    (answers_question (K.state c.args.repo.now.keeper).room_behind K.stands_for state records settled q
    (whole_of c.args.repo.now.documents c.tell.result) told)
