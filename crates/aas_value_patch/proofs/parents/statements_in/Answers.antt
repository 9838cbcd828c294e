use Rattle.std.proofs.Common.{codes, map, subst}
use Rattle.serde_json.specs.View.{view, members_view}
use Rattle.aas_value_update.specs.Forms.{part_of}
use Rattle.aas_value.specs.Parts.{object_of, fits_if, fits_form}
use Rattle.aas_value_patch.specs.Faults.{Judges}
use Rattle.aas_value_patch.proofs.Ordered.{order_under}
use Rattle.aas_value_patch.proofs.parents.statements_in.Goals as goal

pub returns-in-Some-clause-fit : goal.returns-in-Some-clause-fit
returns-in-Some-clause-fit c = λ differ order.
    let ms = members_view c.args.members.now.entries in
    subst (λ o. Judges c.object_in.result (fits_if (fits_form (object_of (map part_of c.args.kids.now))) o))
    c.in-Some.ensures
    (c.object_in.ensures.fit differ
    (order_under (codes "statements") ms (view c.in-Some.value.now) order c.in-Some.ensures))
