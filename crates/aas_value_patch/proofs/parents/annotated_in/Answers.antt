use Rattle.std.proofs.Common.{map, sym, ◌∙◌}
use Rattle.serde_json.specs.Data.{object}
use Rattle.serde_json.specs.View.{members_view}
use Rattle.aas_model.specs.declared.payload.Payload.TheVariants as p
use Rattle.aas_value_update.specs.Forms.{part_of}
use Rattle.aas_value_patch.proofs.Attributes.{refused, annotated_fits, annotated_takes}
use Rattle.aas_value_patch.proofs.parents.annotated_in.Goals as goal

pub returns-in_err-kids : goal.returns-in_err-kids
returns-in_err-kids c = λ order.
    let ms = members_view c.args.members.now.entries in
    refused c.from_residual.result c.in_err-kids.field-0.0
    (p.AnnotatedRelationshipElement c.args.first.now c.args.second.now) (map part_of c.args.kids.now)
    (object ms) _ c.from_residual.ensures.0 c.from_residual.ensures.1 c.in_err-kids.ensures.fit
    (annotated_fits c.args.first.now c.args.second.now (map part_of c.args.kids.now) ms order).first

pub returns-in_err-first : goal.returns-in_err-first
returns-in_err-first c = λ order.
    let ms = members_view c.args.members.now.entries in
    refused c.from_residual-in_err-first.result c.in_err-first.field-0.0
    (p.AnnotatedRelationshipElement c.args.first.now c.args.second.now)
    (map part_of c.args.kids.now) (object ms) _ c.from_residual-in_err-first.ensures.0
    c.from_residual-in_err-first.ensures.1 c.in_err-first.ensures.fit
    (annotated_fits c.args.first.now c.args.second.now (map part_of c.args.kids.now) ms order).second

pub returns-in_err-second : goal.returns-in_err-second
returns-in_err-second c = λ order.
    let ms = members_view c.args.members.now.entries in
    refused c.from_residual-in_err-second.result c.in_err-second.field-0.0
    (p.AnnotatedRelationshipElement c.args.first.now c.args.second.now)
    (map part_of c.args.kids.now) (object ms) _ c.from_residual-in_err-second.ensures.0
    c.from_residual-in_err-second.ensures.1 c.in_err-second.ensures.fit
    (annotated_fits c.args.first.now c.args.second.now (map part_of c.args.kids.now) ms order).third

pub returns-then-not-has_only_three : goal.returns-then-not-has_only_three
returns-then-not-has_only_three c = λ order.
    let ms = members_view c.args.members.now.entries in
    (annotated_fits c.args.first.now c.args.second.now (map part_of c.args.kids.now) ms order).only_these
    (sym c.has_only_three.ensures ∙ c.if-not-has_only_three.true)

pub returns : goal.returns
returns c = λ order. record {
  fits =
      (annotated_fits c.args.first.now c.args.second.now (map part_of c.args.kids.now)
      (members_view c.args.members.now.entries) order).all
      c.in_ok-kids.ensures.fit c.in_ok-first.ensures.fit c.in_ok-second.ensures.fit
      (sym c.has_only_three.ensures ∙ c.if-not-has_only_three.false);
  takes = annotated_takes _ _ _ _ _ (c.in_ok-first.ensures.taken order) (c.in_ok-second.ensures.taken order);
  kids = c.in_ok-kids.ensures.sent _;
}
