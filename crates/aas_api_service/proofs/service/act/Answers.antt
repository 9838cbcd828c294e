use Rattle.std.proofs.Common.{subst}
use Rattle.aas_http.specs.declared.replies.Reply.{Reply}
use Rattle.aas_api_service.specs.Finished.{Finishes}
use Rattle.aas_api_service.proofs.Outcomes.{answers_command}
use Rattle.aas_api_service.proofs.service.act.Goals as goal

pub returns-in-Ok-clause-answered : goal.returns-in-Ok-clause-answered
returns-in-Ok-clause-answered g c = λ records settled.
    let finishes = subst (λ (reply : Reply). Finishes c.act_with_text-done.result reply c.finish.result)
    c.in-Ok.ensures.reply c.finish.ensures.finished in
    answers_command (g.K.Keeper.state c.args.repo.now.keeper).room_behind
    g.K.Keeper.stands_for _ _ _ c.args.command c.act_with_text-done.result
    (c.act_with_text-done.ensures.acts records settled) c.finish.result finishes
