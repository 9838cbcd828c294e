use Rattle.std.proofs.Common.{◌∙◌, ap, sym, subst}
use Rattle.aas_environment.specs.declared.import_fault.ImportFault.{ImportFault}
use Rattle.aas_server.specs.Answer.{disk_failed, journal_full, refused}
use Rattle.aas_server.specs.Importing.{IsFaultAnswer}
use Rattle.aas_server.specs.Status.{exit_code}
use Rattle.aas_server.proofs.Given.{refused_import_status, says_line, says_refused, says_weaker}
use Rattle.aas_server.proofs.importing.say_fault.Goals as goal

pub returns-in-Read-clause-says : goal.returns-in-Read-clause-says
returns-in-Read-clause-says g c = let C = g.C.Link in
    says_weaker _ (IsFaultAnswer c.args.fault) _ _ _
    (λ answer is.
    subst (λ (f : ImportFault). IsFaultAnswer f answer) (sym c.in-Read.is) (is ∙ ap refused c.from.ensures))
    (says_refused c.from.result (exit_code c.end_refused.result)
    (C.state c.args.console.now) (C.state c.end_refused.new.link)
    c.end_refused.ensures.given c.end_refused.ensures.front c.end_refused.ensures.gives.calls.rose
    (λ ten. ap (λ (l : g.row.C.Denot). (C.state l).sent) (c.end_refused.ensures.memory ten)) c.end_refused.ensures.statuses)

pub returns-in-Full-clause-says : goal.returns-in-Full-clause-says
returns-in-Full-clause-says g c = let C = g.C.Link in
    says_weaker _ (IsFaultAnswer c.args.fault) _ _ _
    (λ answer is. subst (λ (f : ImportFault). IsFaultAnswer f answer) (sym c.in-Full.is) is)
    (says_line journal_full (exit_code c.end_with.result)
    (C.state c.args.console.now) (C.state c.end_with.new.link)
    (λ e. cc) c.end_with.ensures.given c.end_with.ensures.front c.end_with.ensures.gives.calls.rose c.end_with.ensures.statuses)

pub returns-in-Storage-clause-says : goal.returns-in-Storage-clause-says
returns-in-Storage-clause-says g c = let C = g.C.Link in
    says_weaker _ (IsFaultAnswer c.args.fault) _ _ _
    (λ answer is. subst (λ (f : ImportFault). IsFaultAnswer f answer) (sym c.in-Storage.is) is)
    (says_line disk_failed (exit_code c.end_with-in-Storage.result)
    (C.state c.args.console.now)
    (C.state c.end_with-in-Storage.new.link)
    (λ e. cc) c.end_with-in-Storage.ensures.given
    c.end_with-in-Storage.ensures.front c.end_with-in-Storage.ensures.gives.calls.rose
    c.end_with-in-Storage.ensures.statuses)

pub returns-in-Read-clause-statuses : goal.returns-in-Read-clause-statuses
returns-in-Read-clause-statuses g c =
    refused_import_status (exit_code c.end_refused.result) c.end_refused.ensures.statuses

pub returns-in-Rule-clause-statuses : goal.returns-in-Rule-clause-statuses
returns-in-Rule-clause-statuses g c =
    refused_import_status (exit_code c.refuse_at-in-Rule.result) c.refuse_at-in-Rule.ensures.statuses
