use Rattle.std.proofs.Common.{◌<◌, length, arith}
use Rattle.aas_value.specs.Attributes.{language_value}
use Rattle.aas_value.specs.Json.{is_language}
use Rattle.aas_value_patch.proofs.Items.{fit_step, taken_step}
use Rattle.aas_value_patch.proofs.slots.language_items.Goals as goal

pub loop-item-preserved : goal.loop-item-preserved
loop-item-preserved c =
    let l = c.loop-item in
    let vs = c.args.items.now in
    let lt : l.item-index < length vs = omega arith in
    record {
      fit =
          fit_step is_language vs l.item-index c.item-item.result
          _ lt c.item-item.is c.in_ok-language_from.ensures.fit l.invariant.fit;
      taken =
          taken_step language_value l.texts c.push.new.self c.in_ok-language_from.field-0
          vs l.item-index c.item-item.result _ lt c.item-item.is
          c.in_ok-push.ensures.ok c.in_ok-language_from.ensures.taken l.invariant.taken;
    }
