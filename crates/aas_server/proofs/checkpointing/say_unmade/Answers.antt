use Rattle.std.proofs.Common.{sym, subst}
use Rattle.aas_server.specs.Answer.{disk_failed, journal_full}
use Rattle.aas_server.specs.Making.{IsSaidThen}
use Rattle.aas_server.specs.Status.{exit_code}
use Rattle.aas_server.specs.declared.checkpointing.Unmade.{Unmade}
use Rattle.aas_server.proofs.Given.{says_line, says_weaker}
use Rattle.aas_server.proofs.checkpointing.say_unmade.Goals as goal

pub returns-in-Full-clause-says : goal.returns-in-Full-clause-says
returns-in-Full-clause-says g c = let C = g.C.Link in
    says_weaker _ (IsSaidThen c.args.unmade) _ _ _ (λ answer is.
    subst (λ (why : Unmade). IsSaidThen why answer) (sym c.in-Full.is) is)
    (says_line journal_full (exit_code c.end_with.result)
    (C.state c.args.console.now) (C.state c.end_with.new.link)
    (λ e. cc) c.end_with.ensures.given c.end_with.ensures.front c.end_with.ensures.gives.calls.rose c.end_with.ensures.statuses)

pub returns-in-Failed-clause-says : goal.returns-in-Failed-clause-says
returns-in-Failed-clause-says g c = let C = g.C.Link in
    says_weaker _ (IsSaidThen c.args.unmade) _ _ _ (λ answer is.
    subst (λ (why : Unmade). IsSaidThen why answer) (sym c.in-Failed.is) is)
    (says_line disk_failed (exit_code c.end_with-in-Failed.result)
    (C.state c.args.console.now)
    (C.state c.end_with-in-Failed.new.link)
    (λ e. cc) c.end_with-in-Failed.ensures.given c.end_with-in-Failed.ensures.front
    c.end_with-in-Failed.ensures.gives.calls.rose c.end_with-in-Failed.ensures.statuses)
