use Rattle.std.proofs.Common.{ℕ, ◌+◌, drop, min, nat_lt, take, decimal, Some, None, if◌then◌else◌, sym, ap, ◌∙◌}
use Rattle.std.proofs.lemmas.Result.{IfOk-weaker}
use Rattle.aas_answer.specs.Answers.{page_begin}
use Rattle.aas_answer.specs.Listed.{child_text}
use Rattle.aas_answer.proofs.InMemory.{put_behind}
use Rattle.aas_answer.proofs.Pages.{joined, places_told}
use Rattle.aas_answer.proofs.place_pages.children_page.Goals as goal

pub returns : goal.returns
returns g c =
    let text = child_text c.args.form c.args.head.now in
    let span = c.args.span in
    let end = c.end_of.result in
    let cursor = c.in_ok-cursor.cursor in
    let old = c.new-out.result in
    let mid = c.pour_begin-begun.new.out in
    let new = c.pour_children.new.out in
    IfOk-weaker c.end_page.result _ _
    (λ page ended kids are many. sym
    (places_told text kids span end cursor new.text.items page
    (c.end_of.ensures ∙ ap (min (span.from + span.limit)) many)
    (c.in_ok-cursor.ensures ∙ ap (λ (n : ℕ). if nat_lt end n then Some (decimal end) else None) many)
    (put_behind old.text.items mid.text.items new.text.items old.faults
    mid.faults new.faults c.pour_begin-begun.result c.in_ok-told.told
    (page_begin cursor) (joined text (take span.limit (drop span.from kids)))
    c.new-out.ensures c.pour_begin-begun.ensures (c.in_ok-told.ensures kids are) ended.0)
    ended.1))
    c.end_page.ensures
