use Rattle.std.proofs.Common.{◌∙◌, eq-eqb}
use Rattle.aas_out.proofs.Adding.{adds_both}
use Rattle.aas_http.proofs.Adding.{adds_then, adds_where}
use Rattle.aas_http.proofs.send.put_allow_field.Goals as goal

pub returns-then-reply-eq405 : goal.returns-then-reply-eq405
returns-then-reply-eq405 g c =
    let listed = adds_then _ _ _ _ _ _ _ _ _ c.add-named.ensures
    (c.as_bytes.ensures.value ∙ c.as_str.ensures.bytes) c.add-listed.ensures in
    adds_where _ _ _ _ _ _ (eq-eqb c.args.reply.now.status 405 c.if-reply-eq405.true)
    (adds_both _ _ _ _ _ _ _ _ listed c.add.ensures)
