use Rattle.std.proofs.Common.{codes, ◌∙◌}
use Rattle.std.proofs.lemmas.Result.{IfOk-weaker}
use Rattle.aas_answer.proofs.InMemory.{put_whole}
use Rattle.aas_answer.proofs.page_text.end_page.Goals as goal

pub returns : goal.returns
returns c =
    let old = c.args.out in
    let new = c.add_text-ended.new.out in
    IfOk-weaker c.text_of.result _ _
    (λ page whole.
    let put = put_whole c.args.told c.add_text-ended.result old.text.items new.text.items old.faults new.faults
    (codes "]}") c.add_text-ended.ensures whole.0 in
    (put.0, whole.1 ∙ put.1))
    c.text_of.ensures
