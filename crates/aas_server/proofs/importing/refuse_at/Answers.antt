use Rattle.std.proofs.Common.{◌≡◌, ◌∙◌}
use Rattle.aas_server.specs.Importing.{refused_at}
use Rattle.aas_server.specs.Status.{exit_code}
use Rattle.aas_server.proofs.Given.{says_line, says_nothing}
use Rattle.aas_server.proofs.importing.refuse_at.Goals as goal

pub returns-in-Ok-clause-says : goal.returns-in-Ok-clause-says
returns-in-Ok-clause-says g c =
    let C = g.C.Link in
    let status = exit_code c.end_with.result in
    let old = (C.state c.args.console.now) in
    let new = (C.state c.end_with.new.link) in
    let answer = refused_at c.args.pointer.now c.args.refusal.now in
    let given : c.deref.result.now ≡ answer.text = c.deref.ensures.value ∙ c.in-Ok.ensures in
    says_line answer status old new
    (λ e. cc) (rw given at c.end_with.ensures.given)
    (rw given at c.end_with.ensures.front) c.end_with.ensures.gives.calls.rose c.end_with.ensures.statuses

pub returns-in-Err-clause-says : goal.returns-in-Err-clause-says
returns-in-Err-clause-says g c = says_nothing _ _
