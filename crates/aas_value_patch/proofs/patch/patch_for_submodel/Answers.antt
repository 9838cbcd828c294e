use Rattle.std.proofs.Common.{Ok, Err, refl, sym, subst}
use Rattle.serde_json.specs.View.{view}
use Rattle.aas_value_update.specs.Update.{body}
use Rattle.aas_value_patch.specs.Faults.{IsPatchFault}
use Rattle.aas_value_patch.specs.Sent.{sent_by}
use Rattle.aas_value_patch.proofs.Updated.{WholeBody, whole_body, updated, patch_fault, body_form, body_differ}
use Rattle.aas_value_patch.proofs.Updated.{body_misfit, body_walked, own}
use Rattle.aas_value_patch.proofs.patch.patch_for_submodel.Goals as goal

pub returns-in_err-gather_all-in-Ok-clause-fault : goal.returns-in_err-gather_all-in-Ok-clause-fault
returns-in_err-gather_all-in-Ok-clause-fault c =
    let d = c.args.submodel.now in
    let v = view c.args.value.now in
    patch_fault c.from_residual.result c.in_err-gather_all-in-Ok.field-0.0
    (body d) v (body_form d) c.from_residual.ensures.0 c.from_residual.ensures.1
    (body_walked (Err c.in_err-gather_all-in-Ok.field-0.0) d v
    (sent_by c.in-Ok.sent) c.requires.in_order c.requires.ordered
    (c.in-Ok.ensures.fit (body_differ d c.requires.in_order) c.requires.ordered) c.in-Ok.ensures.sent
    (λ all ordered. c.in_err-gather_all-in-Ok.ensures.shape own refl all ordered))

pub returns-in_ok-gather_all-in-Ok : goal.returns-in_ok-gather_all-in-Ok
returns-in_ok-gather_all-in-Ok c =
    let d = c.args.submodel.now in
    let v = view c.args.value.now in
    let fit = c.in-Ok.ensures.fit (body_differ d c.requires.in_order) c.requires.ordered in
    let w : WholeBody d v c.gather_all.new.rows =
    whole_body d v (sent_by c.in-Ok.sent) c.new-rows.result c.gather_all.new.rows
    c.in_ok-gather_all-in-Ok.field-0 c.new-rows.ensures c.requires.in_order
    c.requires.ordered fit c.in-Ok.ensures.sent c.in_ok-gather_all-in-Ok.ensures.rows in
    record {
      fits = w.fit;
      update = record {
        update = updated (body d) _ v (body_form d)
            (body_walked (Ok c.in_ok-gather_all-in-Ok.field-0) d v
            (sent_by c.in-Ok.sent) c.requires.in_order c.requires.ordered fit c.in-Ok.ensures.sent
            (λ all ordered. c.in_ok-gather_all-in-Ok.ensures.shape own refl all ordered)) w.taken;
        outside = refl;
      };
      fault = tt;
    }

pub returns-in-Err-clause-fault : goal.returns-in-Err-clause-fault
returns-in-Err-clause-fault c =
    let d = c.args.submodel.now in
    let v = view c.args.value.now in
    subst (IsPatchFault (body d) v) (sym c.fault_here.ensures)
    (body_misfit c.in-Err.misfit d v (c.in-Err.ensures.fit (body_differ d c.requires.in_order) c.requires.ordered))
