use Rattle.serde_json.specs.View.{view, members_view}
use Rattle.aas_value.specs.Attributes.{reference_or_null}
use Rattle.aas_value_patch.proofs.Ordered.{order_under, taken_under}
use Rattle.aas_value_patch.proofs.references.reference_under.Goals as goal

pub returns-in_ok-reference_from-in-Some-clause-taken : goal.returns-in_ok-reference_from-in-Some-clause-taken
returns-in_ok-reference_from-in-Some-clause-taken c = λ order.
    let ms = members_view c.args.members.now.entries in
    taken_under c.args.name.now ms (view c.in-Some.value.now) (reference_or_null c.args.old.now) _ c.in-Some.ensures
    (c.in_ok-reference_from-in-Some.ensures.taken
    (order_under c.args.name.now ms (view c.in-Some.value.now) order c.in-Some.ensures))
