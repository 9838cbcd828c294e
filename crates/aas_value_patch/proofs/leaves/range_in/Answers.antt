use Rattle.std.proofs.Common.{sym, ◌∙◌, refl}
use Rattle.serde_json.specs.Data.{object}
use Rattle.serde_json.specs.View.{members_view}
use Rattle.aas_model.specs.declared.payload.Payload.TheVariants as p
use Rattle.aas_value_patch.proofs.Attributes.{refused, range_fits, range_takes}
use Rattle.aas_value_patch.proofs.leaves.range_in.Goals as goal

pub returns-in_err-max : goal.returns-in_err-max
returns-in_err-max c = λ xs order.
    let ms = members_view c.args.members.now.entries in
    refused c.from_residual.result c.in_err-max.field-0.0
    (p.Range c.args.value_type c.args.min.now c.args.max.now) xs (object ms) _
    c.from_residual.ensures.0 c.from_residual.ensures.1 c.in_err-max.ensures.fit
    (range_fits c.args.value_type c.args.min.now c.args.max.now xs ms order).first

pub returns-in_err-min : goal.returns-in_err-min
returns-in_err-min c = λ xs order.
    let ms = members_view c.args.members.now.entries in
    refused c.from_residual-in_err-min.result c.in_err-min.field-0.0
    (p.Range c.args.value_type c.args.min.now c.args.max.now) xs (object ms) _
    c.from_residual-in_err-min.ensures.0 c.from_residual-in_err-min.ensures.1
    c.in_err-min.ensures.fit (range_fits c.args.value_type c.args.min.now c.args.max.now xs ms order).second

pub returns-then-not-has_only_two : goal.returns-then-not-has_only_two
returns-then-not-has_only_two c = λ xs order.
    (range_fits c.args.value_type c.args.min.now c.args.max.now xs (members_view c.args.members.now.entries) order).only
    (sym c.has_only_two.ensures ∙ c.if-not-has_only_two.true)

pub returns : goal.returns
returns c = λ xs order. record {
  fits =
      (range_fits c.args.value_type c.args.min.now c.args.max.now xs (members_view c.args.members.now.entries) order).all
      c.in_ok-max.ensures.fit c.in_ok-min.ensures.fit (sym c.has_only_two.ensures ∙ c.if-not-has_only_two.false);
  takes = range_takes _ _ _ _ _ _ c.in_ok-max.ensures.taken c.in_ok-min.ensures.taken;
  kids = refl;
}
