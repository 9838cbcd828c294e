use Rattle.std.proofs.Common.{◌<◌, length, arith}
use Rattle.aas_json_mapping.specs.Parts.{spell_specific_asset_id}
use Rattle.aas_value.specs.Json.{is_specific_asset_id}
use Rattle.aas_value_patch.proofs.Items.{fit_step, taken_step, order_step}
use Rattle.aas_value_patch.proofs.references.specific_items.Goals as goal

pub loop-item-preserved : goal.loop-item-preserved
loop-item-preserved c =
    let l = c.loop-item in
    let vs = c.args.items.now in
    let lt : l.item-index < length vs = omega arith in
    let new = c.in_ok-specific_from.field-0 in
    record {
      fit =
          fit_step is_specific_asset_id vs l.item-index c.item-item.result
          _ lt c.item-item.is c.in_ok-specific_from.ensures.fit l.invariant.fit;
      order = λ o. (order_step vs l.item-index c.item-item.result lt c.item-item.is (l.invariant.order o)).1;
      taken = λ o.
          taken_step spell_specific_asset_id l.ids c.push.new.self new vs
          l.item-index c.item-item.result _ lt c.item-item.is c.in_ok-push.ensures.ok
          (c.in_ok-specific_from.ensures.taken
          (order_step vs l.item-index c.item-item.result lt c.item-item.is (l.invariant.order o)).0)
          (l.invariant.taken o);
    }
