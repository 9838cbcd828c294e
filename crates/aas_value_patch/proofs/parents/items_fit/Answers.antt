use Rattle.std.proofs.Common.{map, ap, ◌∙◌, arith}
use Rattle.serde_json.specs.View.{items_view}
use Rattle.aas_value_update.specs.Forms.{part_of}
use Rattle.aas_value.specs.Parts.{items_fit}
use Rattle.aas_value_patch.proofs.Children.{fit_end}
use Rattle.aas_value_patch.proofs.parents.items_fit.Goals as goal

pub returns : goal.returns
returns c =
    let l = c.loop-kid in
    fit_end c.as_slice-kid-items.result.now l.kid-index l.left.now c.is_empty.result _
    (omega arith) c.is_empty.ensures l.invariant
    ∙ ap (λ ks. items_fit (map part_of ks) (items_view c.args.items.now)) c.as_slice-kid-items.ensures
