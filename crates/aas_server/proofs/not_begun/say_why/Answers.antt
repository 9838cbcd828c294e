use Rattle.std.proofs.Common.{sym, subst, ap}
use Rattle.aas_journal.specs.declared.fault.OpenFault.{OpenFault}
use Rattle.aas_server.specs.Answer.{disk_failed, no_journal}
use Rattle.aas_server.specs.Causes.{IsAnswerTo}
use Rattle.aas_server.specs.Status.{exit_code}
use Rattle.aas_server.proofs.Given.{says_damage, says_line, says_weaker}
use Rattle.aas_server.proofs.not_begun.say_why.Goals as goal

pub returns-in-NotInitialised-clause-says : goal.returns-in-NotInitialised-clause-says
returns-in-NotInitialised-clause-says g c = let C = g.C.Link in
    says_weaker _ (IsAnswerTo c.args.fault) _ _ _ (λ answer is.
    subst (λ (f : OpenFault). IsAnswerTo f answer) (sym c.in-NotInitialised.is) is)
    (says_line no_journal (exit_code c.end_with.result)
    (C.state c.args.console.now) (C.state c.end_with.new.link)
    (λ e. cc) c.end_with.ensures.given c.end_with.ensures.front c.end_with.ensures.gives.calls.rose c.end_with.ensures.statuses)

pub returns-in-Damaged-clause-says : goal.returns-in-Damaged-clause-says
returns-in-Damaged-clause-says g c = let C = g.C.Link in
    says_weaker _ (IsAnswerTo c.args.fault) _ _ _ (λ answer is.
    subst (λ (f : OpenFault). IsAnswerTo f answer) (sym c.in-Damaged.is) is)
    (says_damage c.in-Damaged.at (exit_code c.end_damaged.result)
    (C.state c.args.console.now) (C.state c.end_damaged.new.link)
    c.end_damaged.ensures.given c.end_damaged.ensures.front c.end_damaged.ensures.gives.calls.rose
    (λ ten. ap (λ (l : g.row.C.Denot). (C.state l).sent) (c.end_damaged.ensures.memory ten)) c.end_damaged.ensures.statuses)

pub returns-in-Failed-clause-says : goal.returns-in-Failed-clause-says
returns-in-Failed-clause-says g c = let C = g.C.Link in
    says_weaker _ (IsAnswerTo c.args.fault) _ _ _ (λ answer is.
    subst (λ (f : OpenFault). IsAnswerTo f answer) (sym c.in-Failed.is) is)
    (says_line disk_failed (exit_code c.end_with-in-Failed.result)
    (C.state c.args.console.now)
    (C.state c.end_with-in-Failed.new.link)
    (λ e. cc) c.end_with-in-Failed.ensures.given c.end_with-in-Failed.ensures.front
    c.end_with-in-Failed.ensures.gives.calls.rose c.end_with-in-Failed.ensures.statuses)
