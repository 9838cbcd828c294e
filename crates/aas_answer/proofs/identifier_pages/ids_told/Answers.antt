use Rattle.std.proofs.Common.{◌++◌, List, ℕ, sym, ap, ◌∙◌}
use Rattle.std.proofs.lemmas.Result.{IfOk-weaker}
use Rattle.serde_json.specs.Written.{compact_text}
use Rattle.aas_json_table.specs.Spelled.{text_of}
use Rattle.aas_answer.specs.Answers.{page_begin}
use Rattle.aas_answer.proofs.InMemory.{put_behind}
use Rattle.aas_answer.proofs.Pages.{ids_told, joined}
use Rattle.aas_answer.proofs.identifier_pages.ids_told.Goals as goal

pub returns : goal.returns
returns c =
    let page = c.args.page.now in
    let told = λ (ids : List (List ℕ)). joined (λ id. compact_text (text_of id)) ids in
    let cursor = c.in_ok-cursor.cursor in
    let old = c.new-out.result in
    let mid = c.pour_begin-begun.new.out in
    let new = c.pour_listed-told.new.out in
    IfOk-weaker c.end_page.result _ _
    (λ text ended. sym
    (ids_told page.ids page.more cursor new.text.items text c.in_ok-cursor.ensures
    (put_behind old.text.items mid.text.items new.text.items old.faults
    mid.faults new.faults c.pour_begin-begun.result c.pour_listed-told.result
    (page_begin cursor) (told c.as_slice.result.now) c.new-out.ensures
    c.pour_begin-begun.ensures c.pour_listed-told.ensures ended.0
    ∙ ap (λ ids. page_begin cursor ++ told ids) c.as_slice.ensures)
    ended.1))
    c.end_page.ensures
