use Rattle.std.proofs.Common.{sym, subst, ap, ◌∙◌}
use Rattle.aas_server.specs.Answer.{done}
use Rattle.aas_server.specs.Status.{exit_code}
use Rattle.aas_server.proofs.Checkpointed.{IsSaid}
use Rattle.aas_server.proofs.Given.{says_line, says_weaker}
use Rattle.aas_server.proofs.checkpointing.say.Goals as goal

pub returns-in-Ok-clause-says : goal.returns-in-Ok-clause-says
returns-in-Ok-clause-says g c = let C = g.C.Link in
    says_weaker _ (IsSaid (λ line. line.items) c.args.made) _ _ _
    (λ answer is.
    subst (λ made. IsSaid (λ line. line.items) made answer) (sym c.in-Ok.is) (is ∙ ap done c.deref.ensures.value))
    (says_line (done c.deref.result.now) (exit_code c.end_with.result)
    (C.state c.args.console.now) (C.state c.end_with.new.link)
    (λ e. cc) c.end_with.ensures.given c.end_with.ensures.front c.end_with.ensures.gives.calls.rose c.end_with.ensures.statuses)

pub returns-in-Err-clause-says : goal.returns-in-Err-clause-says
returns-in-Err-clause-says g c = let C = g.C.Link in
    says_weaker _ (IsSaid (λ line. line.items) c.args.made) _ _ _
    (λ answer is. subst (λ made. IsSaid (λ line. line.items) made answer) (sym c.in-Err.is) is)
    c.say_unmade.ensures.says
