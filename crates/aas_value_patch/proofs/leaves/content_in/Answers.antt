use Rattle.std.proofs.Common.{sym, ◌∙◌}
use Rattle.serde_json.specs.Data.{object}
use Rattle.serde_json.specs.View.{members_view}
use Rattle.aas_value_patch.proofs.Attributes.{content_refused, file_fits, file_takes}
use Rattle.aas_value_patch.proofs.leaves.content_in.Goals as goal

pub returns-in_err-content_type : goal.returns-in_err-content_type
returns-in_err-content_type c = λ order.
    let ms = members_view c.args.members.now.entries in
    content_refused c.from_residual.result c.in_err-content_type.field-0.0
    c.args.content_type.now c.args.value.now (object ms) _
    c.from_residual.ensures.0 c.from_residual.ensures.1 c.in_err-content_type.ensures.fit
    (λ xs. (file_fits c.args.content_type.now c.args.value.now xs ms order).first)

pub returns-in_err-value : goal.returns-in_err-value
returns-in_err-value c = λ order.
    let ms = members_view c.args.members.now.entries in
    content_refused c.from_residual-in_err-value.result c.in_err-value.field-0.0
    c.args.content_type.now c.args.value.now (object ms) _
    c.from_residual-in_err-value.ensures.0 c.from_residual-in_err-value.ensures.1 c.in_err-value.ensures.fit
    (λ xs. (file_fits c.args.content_type.now c.args.value.now xs ms order).second)

pub returns-then-not-has_only_two : goal.returns-then-not-has_only_two
returns-then-not-has_only_two c = λ order xs.
    (file_fits c.args.content_type.now c.args.value.now xs (members_view c.args.members.now.entries) order).only
    (sym c.has_only_two.ensures ∙ c.if-not-has_only_two.true)

pub returns : goal.returns
returns c = λ order.
    let ms = members_view c.args.members.now.entries in
    record {
      fits = λ xs.
          (file_fits c.args.content_type.now c.args.value.now xs ms order).all c.in_ok-content_type.ensures.fit
          c.in_ok-value.ensures.fit
          (sym c.has_only_two.ensures ∙ c.if-not-has_only_two.false);
      takes =
          file_takes c.args.content_type.now c.args.value.now c.in_ok-content_type.content_type
          c.in_ok-value.value ms c.in_ok-content_type.ensures.taken
          c.in_ok-value.ensures.taken;
    }
