use Rattle.aas_http.specs.ReplyText.{reply_text}
use Rattle.aas_out.proofs.Adding.{adds_both}
use Rattle.aas_http.proofs.send.put_reply.Goals as goal

pub returns : goal.returns
unfolding reply_text
returns g c =
    let described = adds_both _ _ _ _ _ _ _ _ c.put_status_line-begun.ensures c.put_content_fields-described.ensures in
    let allowing = adds_both _ _ _ _ _ _ _ _ described c.put_allow_field-allowing.ensures in
    let whole_head = adds_both _ _ _ _ _ _ _ _ allowing c.put_connection_field-whole_head.ensures in
    let ended = adds_both _ _ _ _ _ _ _ _ whole_head c.add-ended.ensures in
    adds_both _ _ _ _ _ _ _ _ ended c.put_body.ensures
