use Rattle.std.proofs.Common.{◌≡◌, ◌<◌, length, get_or, slice_get, Some, refl, ap, arith}
use Rattle.std.proofs.lemmas.Option.{slice_get_read}
use Rattle.aas_model.specs.declared.element.Element.{Element}
use Rattle.aas_template.proofs.Indexed.{one_more}
use Rattle.aas_template.proofs.index.index.Goals as goal

pub loop-place-preserved : goal.loop-place-preserved
loop-place-preserved c =
    let ts = c.args.templates.now in
    let i = c.loop-place.place in
    let t : Element = c.index-templates-place.result in
    let lt : i < length ts = omega arith in
    let at : t ≡ get_or ts i t = ap (λ (x : Element). x) c.index-templates-place.is in
    let there : slice_get ts i ≡ Some t = slice_get_read ts (length ts) i t refl lt at in
    one_more ts i t c.loop-place.places c.put.new.places c.name.result.now c.requires there c.name.ensures.characters c.name.ensures.bytes c.in_ok-put.ensures
    c.loop-place.invariant
