use Rattle.std.proofs.Common.{◌≡◌, ◌∙◌, ℕ, List, inr, subst}
use Rattle.aas_environment.specs.Imports.{IsFileFault}
use Rattle.aas_server.specs.Answer.{Says, done}
use Rattle.aas_server.specs.Importing.{demo_input, demo_text}
use Rattle.aas_server.specs.Status.{exit_code}
use Rattle.aas_server.proofs.DemoTaken.{demo_taken, no_refusal_given}
use Rattle.aas_server.proofs.Given.{demo_status, done_demo_status, never_ten, says_line}
use Rattle.aas_server.proofs.PutIn.{put_not, put_well}
use Rattle.aas_server.proofs.importing.import_demo.Goals as goal

pub returns-in-Ok-import_bytes-clause-does : goal.returns-in-Ok-import_bytes-clause-does
returns-in-Ok-import_bytes-clause-does g c =
    let C = g.C.Link in
    let old = (C.state c.args.console.now) in
    let new = (C.state c.end_with.new.link) in
    let status = exit_code c.end_with.result in
    let given : c.as_bytes.result.now ≡ demo_text c.args.count =
    c.as_bytes.ensures.value ∙ c.as_str.ensures.value ∙ c.demo_line-line.ensures in
    inr (λ records settled. put_well _ _ _ _ _ _ _ _ _ c.in-Ok-import_bytes.field-0
    c.deref.result.now (c.deref.ensures.value ∙ c.in-Ok.ensures.text)
    (c.in-Ok-import_bytes.ensures.imports records settled)
    (subst (λ (text : List ℕ). Says (λ answer. answer ≡ done text) status old new) given
    (says_line (done c.as_bytes.result.now) status old new
    (λ e. cc) c.end_with.ensures.given c.end_with.ensures.front c.end_with.ensures.gives.calls.rose c.end_with.ensures.statuses))
    (never_ten status c.end_with.ensures.statuses))

pub returns-in-Ok-clause-does : goal.returns-in-Ok-clause-does
returns-in-Ok-clause-does g c =
    inr (λ records settled. put_not _ _ _ _ _ _ _ _ _ c.in-Err-import_bytes.fault
    c.deref.result.now (c.deref.ensures.value ∙ c.in-Ok.ensures.text)
    (c.in-Err-import_bytes.ensures.imports records settled)
    c.say_fault.ensures.says (λ ten. c.say_fault.ensures.refused (inr (inr ten))))

pub returns-in-Ok-import_bytes-clause-statuses : goal.returns-in-Ok-import_bytes-clause-statuses
returns-in-Ok-import_bytes-clause-statuses g c =
    done_demo_status (exit_code c.end_with.result) c.end_with.ensures.statuses

pub returns-in-Ok-clause-statuses : goal.returns-in-Ok-clause-statuses
returns-in-Ok-clause-statuses g c =
    let C = g.C.Link in
    let why = c.in-Err-import_bytes.fault in
    let status = exit_code c.say_fault.result in
    let old = (C.state c.args.console.now) in
    let new = (C.state c.say_fault.new.console) in
    let is : IsFileFault (demo_input c.args.count) why =
    subst (λ (bytes : List ℕ). IsFileFault bytes why)
    (c.deref.ensures.value ∙ c.in-Ok.ensures.text) c.in-Err-import_bytes.ensures.file in
    let other = demo_taken c.demos_are_valid.ensures c.demos_have_so_many.ensures
    c.args.count c.requires.few c.in-Ok.ensures.spelled why is in
    demo_status status (no_refusal_given status old new why other c.say_fault.ensures.says) c.say_fault.ensures.statuses
