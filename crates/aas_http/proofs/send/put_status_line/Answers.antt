use Rattle.std.proofs.Common.{◌∙◌}
use Rattle.aas_out.proofs.Adding.{adds_both}
use Rattle.aas_http.proofs.Adding.{adds_then}
use Rattle.aas_http.proofs.send.put_status_line.Goals as goal

pub returns : goal.returns
returns g c =
    let numbered = adds_then _ _ _ _ _ _ _ _ _ c.add-version.ensures
    (c.as_bytes.ensures.value ∙ c.format.ensures.text) c.add-number.ensures in
    let spaced = adds_both _ _ _ _ _ _ _ _ numbered c.add-space.ensures in
    let named = adds_then _ _ _ _ _ _ _ _ _ spaced c.phrase.ensures c.add-named.ensures in
    adds_both _ _ _ _ _ _ _ _ named c.add.ensures
