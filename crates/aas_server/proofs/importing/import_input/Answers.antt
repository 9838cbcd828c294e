use Rattle.std.proofs.Common.{◌≡◌, ◌∙◌, ℕ, List, inr, subst}
use Rattle.aas_server.specs.Answer.{Says, done}
use Rattle.aas_server.specs.Importing.{counts_text, import_limit}
use Rattle.aas_server.specs.Status.{exit_code}
use Rattle.aas_server.proofs.Given.{done_import_status, full_import_status, never_ten, says_line}
use Rattle.aas_server.proofs.PutIn.{all_read, all_within, put_not, put_well, says_moved}
use Rattle.aas_server.proofs.importing.import_input.Goals as goal

pub returns-in-Ok-import_bytes-clause-does : goal.returns-in-Ok-import_bytes-clause-does
returns-in-Ok-import_bytes-clause-does g c =
    let C = g.C.Link in
    let old = (C.state c.args.console.now) in
    let mid = (C.state c.read_input.new.link) in
    let new = (C.state c.end_with.new.link) in
    let status = exit_code c.end_with.result in
    let given : c.as_bytes.result.now ≡ counts_text c.in-Ok-import_bytes.counts =
    c.as_bytes.ensures.value ∙ c.as_str.ensures.value ∙ c.counts_line.ensures in
    inr (
      all_within old.left c.in-Ok.input.items import_limit c.in-Ok.ensures.whole c.in-Ok.ensures.within,
      λ input left records settled. put_well _ _ _ _ _ _ _ _ _ c.in-Ok-import_bytes.counts
          c.deref.result.now
          (c.deref.ensures.value ∙ all_read old.left c.in-Ok.input.items input c.in-Ok.ensures.whole left)
          (c.in-Ok-import_bytes.ensures.imports records settled)
          (says_moved _ status old mid new c.in-Ok.ensures.sent c.in-Ok.ensures.later
          (subst (λ (text : List ℕ). Says (λ answer. answer ≡ done text) status mid new) given
          (says_line (done c.as_bytes.result.now) status mid new
          (λ e. cc) c.end_with.ensures.given c.end_with.ensures.front
          c.end_with.ensures.gives.calls.rose c.end_with.ensures.statuses)))
          (never_ten status c.end_with.ensures.statuses),
    )

pub returns-in-Ok-clause-does : goal.returns-in-Ok-clause-does
returns-in-Ok-clause-does g c =
    let C = g.C.Link in
    let old = (C.state c.args.console.now) in
    let mid = (C.state c.read_input.new.link) in
    let new = (C.state c.say_fault.new.console) in
    inr (
      all_within old.left c.in-Ok.input.items import_limit c.in-Ok.ensures.whole c.in-Ok.ensures.within,
      λ input left records settled. put_not _ _ _ _ _ _ _ _ _ c.in-Err.fault
          c.deref.result.now
          (c.deref.ensures.value ∙ all_read old.left c.in-Ok.input.items input c.in-Ok.ensures.whole left)
          (c.in-Err.ensures.imports records settled)
          (says_moved _ (exit_code c.say_fault.result) old mid
          new c.in-Ok.ensures.sent c.in-Ok.ensures.later c.say_fault.ensures.says)
          (λ ten. c.say_fault.ensures.refused (inr (inr ten))),
    )

pub returns-in-Ok-import_bytes-clause-statuses : goal.returns-in-Ok-import_bytes-clause-statuses
returns-in-Ok-import_bytes-clause-statuses g c =
    done_import_status (exit_code c.end_with.result) c.end_with.ensures.statuses

pub returns-in-Err-Refused-TooLarge-clause-statuses : goal.returns-in-Err-Refused-TooLarge-clause-statuses
returns-in-Err-Refused-TooLarge-clause-statuses g c =
    full_import_status (exit_code c.end_with-in-Err-Refused-TooLarge.result)
    c.end_with-in-Err-Refused-TooLarge.ensures.statuses
