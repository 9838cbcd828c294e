use Rattle.std.proofs.Common.{◌≡◌, ◌∙◌, ◌+◌, false, ap, rules}
use Rattle.std.specs.Prelude.{◌==◌, decimal}
use Rattle.aas_out.proofs.Adding.{adds_both}
use Rattle.aas_http.proofs.Adding.{adds_then, adds_unless}
use Rattle.aas_http.proofs.send.put_content_fields.Goals as goal

pub returns : goal.returns
returns g c =
    let sized = adds_then _ _ _ _ _ _ _ _ _ c.add-named.ensures
    (c.as_bytes.ensures.value ∙ c.format.ensures.text ∙ ap (λ n. decimal (n + c.args.reply.now.later)) c.len.ensures)
    c.add-sized.ensures in
    let fails : (c.args.reply.now.status == 204) ≡ false = search rules in
    adds_unless _ _ _ _ _ _ fails (adds_both _ _ _ _ _ _ _ _ sized c.add.ensures)
