use Rattle.std.proofs.Common.{sym, ◌∙◌, refl}
use Rattle.serde_json.specs.Data.{object}
use Rattle.serde_json.specs.View.{members_view}
use Rattle.aas_model.specs.declared.payload.Payload.TheVariants as p
use Rattle.aas_value_patch.proofs.Attributes.{refused, relationship_fits, relationship_takes}
use Rattle.aas_value_patch.proofs.leaves.relationship_in.Goals as goal

pub returns-in_err-first : goal.returns-in_err-first
returns-in_err-first c = λ xs order.
    let ms = members_view c.args.members.now.entries in
    refused c.from_residual.result c.in_err-first.field-0.0
    (p.RelationshipElement c.args.first.now c.args.second.now) xs (object ms) _
    c.from_residual.ensures.0 c.from_residual.ensures.1 c.in_err-first.ensures.fit
    (relationship_fits c.args.first.now c.args.second.now xs ms order).first

pub returns-in_err-second : goal.returns-in_err-second
returns-in_err-second c = λ xs order.
    let ms = members_view c.args.members.now.entries in
    refused c.from_residual-in_err-second.result c.in_err-second.field-0.0
    (p.RelationshipElement c.args.first.now c.args.second.now) xs (object ms) _
    c.from_residual-in_err-second.ensures.0 c.from_residual-in_err-second.ensures.1 c.in_err-second.ensures.fit
    (relationship_fits c.args.first.now c.args.second.now xs ms order).second

pub returns-then-not-has_only_two : goal.returns-then-not-has_only_two
returns-then-not-has_only_two c = λ xs order.
    (relationship_fits c.args.first.now c.args.second.now xs (members_view c.args.members.now.entries) order).only
    (sym c.has_only_two.ensures ∙ c.if-not-has_only_two.true)

pub returns : goal.returns
returns c = λ xs order. record {
  fits =
      (relationship_fits c.args.first.now c.args.second.now xs (members_view c.args.members.now.entries) order).all
      c.in_ok-first.ensures.fit c.in_ok-second.ensures.fit
      (sym c.has_only_two.ensures ∙ c.if-not-has_only_two.false);
  takes = relationship_takes _ _ _ _ _ (c.in_ok-first.ensures.taken order) (c.in_ok-second.ensures.taken order);
  kids = refl;
}
