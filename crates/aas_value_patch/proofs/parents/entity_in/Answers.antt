use Rattle.std.proofs.Common.{map, sym, ◌∙◌}
use Rattle.serde_json.specs.Data.{object}
use Rattle.serde_json.specs.View.{members_view}
use Rattle.aas_model.specs.declared.payload.Payload.TheVariants as p
use Rattle.aas_value_update.specs.Forms.{part_of}
use Rattle.aas_value_patch.proofs.Attributes.{refused, entity_fits, entity_takes}
use Rattle.aas_value_patch.proofs.parents.entity_in.Goals as goal

pub returns-in_err-entity_type : goal.returns-in_err-entity_type
returns-in_err-entity_type c = λ differ order.
    let ms = members_view c.args.members.now.entries in
    refused c.from_residual.result c.in_err-entity_type.field-0.0
    (p.Entity c.args.entity_type c.args.global_asset_id.now c.args.specific_asset_ids.now)
    (map part_of c.args.kids.now) (object ms) _ c.from_residual.ensures.0
    c.from_residual.ensures.1 c.in_err-entity_type.ensures.fit
    (entity_fits c.args.entity_type c.args.global_asset_id.now c.args.specific_asset_ids.now
    (map part_of c.args.kids.now) ms order).first

pub returns-in_err-global_asset_id : goal.returns-in_err-global_asset_id
returns-in_err-global_asset_id c = λ differ order.
    let ms = members_view c.args.members.now.entries in
    refused c.from_residual-in_err-global_asset_id.result c.in_err-global_asset_id.field-0.0
    (p.Entity c.args.entity_type c.args.global_asset_id.now c.args.specific_asset_ids.now) (map part_of c.args.kids.now)
    (object ms) _
    c.from_residual-in_err-global_asset_id.ensures.0 c.from_residual-in_err-global_asset_id.ensures.1
    c.in_err-global_asset_id.ensures.fit
    (entity_fits c.args.entity_type c.args.global_asset_id.now c.args.specific_asset_ids.now
    (map part_of c.args.kids.now) ms order).second

pub returns-in_err-specific_asset_ids : goal.returns-in_err-specific_asset_ids
returns-in_err-specific_asset_ids c = λ differ order.
    let ms = members_view c.args.members.now.entries in
    refused c.from_residual-in_err-specific_asset_ids.result c.in_err-specific_asset_ids.field-0.0
    (p.Entity c.args.entity_type c.args.global_asset_id.now c.args.specific_asset_ids.now) (map part_of c.args.kids.now)
    (object ms) _
    c.from_residual-in_err-specific_asset_ids.ensures.0 c.from_residual-in_err-specific_asset_ids.ensures.1
    c.in_err-specific_asset_ids.ensures.fit
    (entity_fits c.args.entity_type c.args.global_asset_id.now c.args.specific_asset_ids.now
    (map part_of c.args.kids.now) ms order).third

pub returns-in_err-kids : goal.returns-in_err-kids
returns-in_err-kids c = λ differ order.
    let ms = members_view c.args.members.now.entries in
    refused c.from_residual-in_err-kids.result c.in_err-kids.field-0.0
    (p.Entity c.args.entity_type c.args.global_asset_id.now c.args.specific_asset_ids.now)
    (map part_of c.args.kids.now) (object ms)
    _ c.from_residual-in_err-kids.ensures.0 c.from_residual-in_err-kids.ensures.1
    (c.in_err-kids.ensures.fit differ order)
    (entity_fits c.args.entity_type c.args.global_asset_id.now c.args.specific_asset_ids.now
    (map part_of c.args.kids.now) ms order).fourth

pub returns-then-not-has_only_four : goal.returns-then-not-has_only_four
returns-then-not-has_only_four c = λ differ order.
    let ms = members_view c.args.members.now.entries in
    (entity_fits c.args.entity_type c.args.global_asset_id.now c.args.specific_asset_ids.now
    (map part_of c.args.kids.now) ms order).only_these
    (sym c.has_only_four.ensures ∙ c.if-not-has_only_four.true)

pub returns : goal.returns
returns c = λ differ order. record {
  fits =
      (entity_fits c.args.entity_type c.args.global_asset_id.now c.args.specific_asset_ids.now
      (map part_of c.args.kids.now) (members_view c.args.members.now.entries) order).all
      c.in_ok-entity_type.ensures.fit c.in_ok-global_asset_id.ensures.fit c.in_ok-specific_asset_ids.ensures.fit
      (c.in_ok-kids.ensures.fit differ order) (sym c.has_only_four.ensures ∙ c.if-not-has_only_four.false);
  takes =
      entity_takes _ _ _ _ _ _ _ c.in_ok-entity_type.ensures.taken c.in_ok-global_asset_id.ensures.taken
      (c.in_ok-specific_asset_ids.ensures.taken order);
  kids = c.in_ok-kids.ensures.sent _;
}
