use Rattle.std.proofs.Common.{◌≡◌, false, sym, ◌∙◌, subst}
use Rattle.serde_json.specs.Data.{object}
use Rattle.serde_json.specs.View.{members_view}
use Rattle.aas_model.specs.declared.payload.Payload.{Payload}
use Rattle.aas_model.specs.declared.payload.Payload.TheVariants as p
use Rattle.aas_value_update.specs.Forms.{form_of}
use Rattle.aas_value.specs.Parts.{fits_form}
use Rattle.aas_value_patch.specs.Steps.{Stepped}
use Rattle.aas_value_patch.proofs.Attributes.{refused, event_fits, event_is}
use Rattle.aas_value_patch.proofs.leaves.event_in.Goals as goal

pub returns-in_err-observed : goal.returns-in_err-observed
returns-in_err-observed c = λ xs is order.
    let ms = members_view c.args.members.now.entries in
    let e = c.in-BasicEventElement in
    subst (λ (x : Payload). Stepped c.from_residual.result x xs (object ms)) (sym e.is)
    (refused c.from_residual.result c.in_err-observed.field-0.0
    (p.BasicEventElement e.observed e.direction e.state e.message_topic
    e.message_broker e.last_update e.min_interval e.max_interval)
    xs (object ms) _
    c.from_residual.ensures.0 c.from_residual.ensures.1 c.in_err-observed.ensures.fit
    (event_fits e.observed e.direction e.state e.message_topic e.message_broker
    e.last_update e.min_interval e.max_interval xs ms order).first)

pub returns-then-not-has_only : goal.returns-then-not-has_only
returns-then-not-has_only c = λ xs is order.
    let ms = members_view c.args.members.now.entries in
    let e = c.in-BasicEventElement in
    subst (λ (x : Payload). fits_form (form_of x xs) (object ms) ≡ false) (sym e.is)
    ((event_fits e.observed e.direction e.state e.message_topic e.message_broker
    e.last_update e.min_interval e.max_interval xs ms order).only
    (sym c.has_only.ensures ∙ c.if-not-has_only.true))

pub returns : goal.returns
returns c = λ xs is order.
    let e = c.in-BasicEventElement in
    event_is c.args.event.now e.observed c.in_ok-observed.observed e.direction
    e.state e.message_topic c.in_ok-copy_option.field-0 e.message_broker
    c.in_ok-copy_option-2.field-0 e.last_update c.in_ok-copy_option-3.field-0
    e.min_interval c.in_ok-copy_option-4.field-0 e.max_interval c.in_ok-copy_option-5.field-0 xs
    (members_view c.args.members.now.entries) e.is
    c.in_ok-copy_option.ensures c.in_ok-copy_option-2.ensures c.in_ok-copy_option-3.ensures
    c.in_ok-copy_option-4.ensures c.in_ok-copy_option-5.ensures
    order c.in_ok-observed.ensures.fit (sym c.has_only.ensures ∙ c.if-not-has_only.false)
    (c.in_ok-observed.ensures.taken order)
