use Rattle.std.proofs.Common.{◌++◌, ◌-◌, drop, take, sym, ap, ◌∙◌}
use Rattle.std.proofs.lemmas.Result.{IfOk-weaker}
use Rattle.aas_answer.specs.Answers.{page_begin, reference_text}
use Rattle.aas_answer.proofs.InMemory.{put_behind}
use Rattle.aas_answer.proofs.Pages.{entries_shown, joined, places_told}
use Rattle.aas_answer.proofs.place_pages.references_page.Goals as goal

pub returns : goal.returns
returns c =
    let references = c.args.references.now in
    let span = c.args.span in
    let end = c.end_of-end.result in
    let first = c.min.result in
    let cursor = c.in_ok-cursor.cursor in
    let old = c.new-out.result in
    let mid = c.pour_begin-begun.new.out in
    let new = c.pour_listed-told.new.out in
    IfOk-weaker c.end_page.result _ _
    (λ page ended. sym
    (places_told reference_text references span end cursor
    new.text.items page c.end_of-end.ensures c.in_ok-cursor.ensures
    (put_behind old.text.items mid.text.items new.text.items old.faults
    mid.faults new.faults c.pour_begin-begun.result c.pour_listed-told.result
    (page_begin cursor) (joined reference_text (take (end - first) (drop first references)))
    c.new-out.ensures c.pour_begin-begun.ensures c.pour_listed-told.ensures ended.0
    ∙ ap (λ rs. page_begin cursor ++ joined reference_text rs)
    (entries_shown references span.from span.limit end first c.end_of-end.ensures c.min.ensures))
    ended.1))
    c.end_page.ensures
