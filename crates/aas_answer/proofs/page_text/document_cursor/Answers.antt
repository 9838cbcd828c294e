use Rattle.std.proofs.Common.{◌++◌, ◌-◌, length, slice_get, Some, ap, ◌∙◌}
use Rattle.base64.specs.Engines.{url_safe_no_pad}
use Rattle.base64.specs.GeneralPurpose.{encode_of}
use Rattle.aas_answer.proofs.Pages.{last_cursor}
use Rattle.aas_answer.proofs.page_text.document_cursor.Goals as goal

pub returns : goal.returns
returns c =
    ap Some
    (c.from.ensures ∙ c.in_ok-id_to_segment.ensures.ok
    ∙ ap (λ t. t ++ encode_of url_safe_no_pad c.as_str.result.now) c.new-cursor.ensures.items
    ∙ ap (encode_of url_safe_no_pad) c.as_str.ensures.bytes)
    ∙ last_cursor c.args.page.now.more c.args.page.now.ids (Some c.in-Some.last.now) c.if-not-page.false
    (c.in-Some.ensures.value ∙ ap (λ ids. slice_get ids (length ids - 1)) c.as_slice.ensures)
