use Rattle.std.proofs.Common.{◌≡◌, ◌∙◌, ℕ, List, ap, subst}
use Rattle.aas_server.specs.Answer.{Says, done}
use Rattle.aas_server.specs.CheckText.{check_text}
use Rattle.aas_server.specs.Status.{exit_code}
use Rattle.aas_server.proofs.Given.{says_line, says_nothing}
use Rattle.aas_server.proofs.telling.DanglingReferencesReport.give.Goals as goal

pub returns-in-Ok-clause-says : goal.returns-in-Ok-clause-says
returns-in-Ok-clause-says g c =
    let C = g.C.Link in
    let status = exit_code c.end_with.result in
    let old = (C.state c.args.console.now) in
    let new = (C.state c.end_with.new.link) in
    let given : c.deref.result.now ≡ check_text c.args.repo.now.documents =
    c.deref.ensures.value ∙ c.in-Ok.ensures ∙ ap check_text c.store.ensures.documents in
    subst (λ (text : List ℕ). Says (λ said. said ≡ done text) status old new) given
    (says_line (done c.deref.result.now) status old new
    (λ e. cc) c.end_with.ensures.given c.end_with.ensures.front c.end_with.ensures.gives.calls.rose c.end_with.ensures.statuses)

pub returns-in-Err-clause-says : goal.returns-in-Err-clause-says
returns-in-Err-clause-says g c = says_nothing _ _
