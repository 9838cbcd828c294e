use Rattle.std.proofs.Common.{◌++◌, List, ℕ, sym, ap, ◌∙◌}
use Rattle.std.specs.Str.{encode_utf8_all}
use Rattle.std.proofs.lemmas.Result.{IfOk-weaker}
use Rattle.aas_answer.specs.Answers.{page_begin}
use Rattle.aas_answer.specs.Listed.{document_text}
use Rattle.aas_answer.proofs.InMemory.{put_behind}
use Rattle.aas_answer.proofs.Pages.{documents_told, joined}
use Rattle.aas_answer.proofs.document_pages.page_told.Goals as goal

pub returns : goal.returns
returns g c =
    let d = g.S.Store.documents c.args.store.now in
    let page = c.args.page.now in
    let told = λ (ids : List (List ℕ)). joined (λ id. document_text c.args.form (encode_utf8_all id) d) ids in
    let cursor = c.in_ok-cursor.cursor in
    let old = c.new-out.result in
    let mid = c.pour_begin-begun.new.out in
    let new = c.pour_documents.new.out in
    IfOk-weaker c.end_page.result _ _
    (λ text ended s shown. sym
    (documents_told c.args.form d s page.ids page.more cursor new.text.items text shown c.in_ok-cursor.ensures
    (put_behind old.text.items mid.text.items new.text.items old.faults
    mid.faults new.faults c.pour_begin-begun.result c.in_ok-told.told
    (page_begin cursor) (told c.as_slice.result.now) c.new-out.ensures
    c.pour_begin-begun.ensures c.in_ok-told.ensures ended.0
    ∙ ap (λ ids. page_begin cursor ++ told ids) c.as_slice.ensures)
    ended.1))
    c.end_page.ensures
