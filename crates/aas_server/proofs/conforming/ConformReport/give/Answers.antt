use Rattle.std.proofs.Common.{subst, ap}
use Rattle.aas_server.specs.Answer.{done, refused}
use Rattle.aas_server.specs.Conforming.{IsConformAnswer, not_a_template}
use Rattle.aas_server.specs.Status.{exit_code}
use Rattle.aas_store.specs.Documents.{Documents}
use Rattle.aas_server.proofs.ConformAnswers.{refused_status, says_conform, says_no_template, says_refusal, unfit_status}
use Rattle.aas_server.proofs.Given.{says_line}
use Rattle.aas_server.proofs.conforming.ConformReport.give.Goals as goal

pub returns-in-Ok-clause-says : goal.returns-in-Ok-clause-says
returns-in-Ok-clause-says g c =
    let C = g.C.Link in
    let status = exit_code c.end_with.result in
    let old = (C.state c.args.console.now) in
    let new = (C.state c.end_with.new.link) in
    says_conform c.args.self.now.template.now c.args.self.now.instance.now
    (g.S.Store.documents c.store.result.now) c.args.repo.now.documents c.deref.result.now c.in-Ok.text.items
    status old new c.store.ensures.documents c.deref.ensures.value c.in-Ok.ensures.done
    (says_line (done c.deref.result.now) status old new
    (λ e. cc) c.end_with.ensures.given c.end_with.ensures.front c.end_with.ensures.gives.calls.rose c.end_with.ensures.statuses)

pub returns-in-Err-Refused-clause-says : goal.returns-in-Err-Refused-clause-says
returns-in-Err-Refused-clause-says g c =
    let C = g.C.Link in
    let template = c.args.self.now.template.now in
    let instance = c.args.self.now.instance.now in
    let r = c.in-Err-Refused.refusal in
    let unfit = rw c.in-Err-Refused.field-0-is at c.in-Err-Refused.ensures.unfit in
    says_refusal (IsConformAnswer template instance c.args.repo.now.documents) r (exit_code c.end_refused.result)
    (C.state c.args.console.now) (C.state c.end_refused.new.link)
    (λ some.
    subst (λ (x : Documents). IsConformAnswer template instance x (refused r)) c.store.ensures.documents (unfit some))
    c.end_refused.ensures.given c.end_refused.ensures.front c.end_refused.ensures.gives.calls.rose
    (λ ten. ap (λ (l : g.row.C.Denot). (C.state l).sent) (c.end_refused.ensures.memory ten)) c.end_refused.ensures.statuses

pub returns-in-Err-NotTemplate-clause-says : goal.returns-in-Err-NotTemplate-clause-says
returns-in-Err-NotTemplate-clause-says g c =
    let C = g.C.Link in
    let status = exit_code c.end_with-in-Err-NotTemplate.result in
    let old = (C.state c.args.console.now) in
    let new = (C.state c.end_with-in-Err-NotTemplate.new.link) in
    says_no_template c.args.self.now.template.now c.args.self.now.instance.now
    (g.S.Store.documents c.store.result.now) c.args.repo.now.documents status old new
    c.store.ensures.documents (rw c.in-Err-NotTemplate.field-0-is at c.in-Err-NotTemplate.ensures.unfit)
    (says_line not_a_template status old new
    (λ e. cc) c.end_with-in-Err-NotTemplate.ensures.given
    c.end_with-in-Err-NotTemplate.ensures.front c.end_with-in-Err-NotTemplate.ensures.gives.calls.rose
    c.end_with-in-Err-NotTemplate.ensures.statuses)

pub returns-in-Err-Refused-clause-statuses : goal.returns-in-Err-Refused-clause-statuses
returns-in-Err-Refused-clause-statuses g c =
    refused_status (exit_code c.end_refused.result) c.end_refused.ensures.statuses

pub returns-in-Err-NotTemplate-clause-statuses : goal.returns-in-Err-NotTemplate-clause-statuses
returns-in-Err-NotTemplate-clause-statuses g c =
    unfit_status (exit_code c.end_with-in-Err-NotTemplate.result) c.end_with-in-Err-NotTemplate.ensures.statuses
