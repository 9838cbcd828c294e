use Rattle.std.proofs.Common.{◌≡◌, ◌<◌, length, get_or, map, option_map, ap, ◌∙◌, arith}
use Rattle.serde_json.specs.View.{view, items_view}
use Rattle.aas_model.specs.declared.element.Element.{Element}
use Rattle.aas_value_update.specs.Forms.{part_of}
use Rattle.aas_value.specs.Parts.{entries_fit}
use Rattle.aas_value_patch.proofs.Children.{entries_step, entries_end}
use Rattle.aas_value_patch.proofs.parents.entries_fit.Goals as goal

pub loop-kid-preserved : goal.loop-kid-preserved
loop-kid-preserved c =
    let l = c.loop-kid in
    let ks = c.as_slice-kid-items.result.now in
    let lt : l.kid-index < length ks = omega arith in
    let at : c.kid-item.result ≡ get_or ks l.kid-index c.kid-item.result = ap (λ (x : Element). x) c.kid-item.is in
    entries_step ks l.kid-index c.kid-item.result (items_view l.left.now) (items_view c.entry_at.result.behind.now)
    (option_map (λ v. view v.now) c.entry_at.result.value) _ lt at c.entry_at.ensures l.invariant

pub returns : goal.returns
returns c =
    let l = c.loop-kid in
    entries_end c.as_slice-kid-items.result.now l.kid-index l.left.now c.is_empty.result _
    (omega arith) c.is_empty.ensures l.invariant
    ∙ ap (λ ks. entries_fit (map part_of ks) (items_view c.args.entries.now)) c.as_slice-kid-items.ensures
