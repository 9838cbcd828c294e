use Rattle.std.proofs.Common.{◌≡◌, ℕ, ◌<◌, ◌++◌, ◌∷◌, Option, Some, Err, option_map, length, map, drop, get_or, sym, ap}
use Rattle.std.proofs.Common.{◌∙◌, subst, arith, rules}
use denote.Ref.{Bor}
use Rattle.serde_json.specs.View.{view}
use Rattle.serde_json.specs.declared.value.Value.{Value}
use Rattle.aas_model.specs.declared.element.Element.{Element}
use Rattle.aas_constraints.specs.Walk.{above_of}
use Rattle.aas_path_trees.specs.Patched.{kinds}
use Rattle.aas_value_update.specs.Forms.{part_of}
use Rattle.aas_value.specs.Parts.{children}
use Rattle.aas_value_update.specs.Shape.{sendable, among, first_misshapen}
use Rattle.aas_value_patch.specs.Faults.{Shapes}
use Rattle.aas_value_patch.specs.declared.preparing.ValueFault.{ValueFault}
use Rattle.aas_value_patch.specs.Gathered.{AllOrdered, AllInOrder, Gathered, misshapen}
use Rattle.aas_value_patch.specs.Sent.{sent_by}
use Rattle.aas_value_patch.proofs.Walk.{misfit_here, shape_below, skip_rows, rows_below, kid_order, loop_order}
use Rattle.aas_value_patch.proofs.Walk.{loop_shape, loop_fault, loop_end, loop_rows, if_ok, kid_shown, unshaped}
use Rattle.aas_value_patch.proofs.Walk.{walk_end, none_left}
use Rattle.aas_value_patch.proofs.gather.+gather.Goals as goal

pub gather-returns-in_ok-rank_behind-in-None-clause-rows : goal.gather-returns-in_ok-rank_behind-in-None-clause-rows
gather-returns-in_ok-rank_behind-in-None-clause-rows t c = λ order ordered seen at so.
    let e = c.args.element.now in
    subst (λ (o : Option (Bor Value)).
    (c.in_ok-rank_behind-in-None.field-0 ≡ length (seen ++ kinds e)) × Gathered e (option_map (λ v. view v.now) o) seen
    c.args.rows.now c.args.rows.now) (sym c.in-None.is)
    (skip_rows e seen c.args.rows.now c.args.rank
    c.in_ok-rank_behind-in-None.field-0 at so c.in_ok-rank_behind-in-None.ensures)

pub gather_here-returns-in_ok-next-in-Ok-clause-shape : goal.gather_here-returns-in_ok-next-in-Ok-clause-shape
gather_here-returns-in_ok-next-in-Ok-clause-shape t c = λ order ordered.
    shape_below c.gather_all.result c.args.element.now
    (view c.args.value.now) c.in-Ok.step (c.in-Ok.ensures order ordered) order ordered
    (λ o same all sent. c.gather_all.ensures.shape o same all sent)

pub gather_here-returns-in_ok-next-in-Ok-clause-rows : goal.gather_here-returns-in_ok-next-in-Ok-clause-rows
gather_here-returns-in_ok-next-in-Ok-clause-rows t c =
    if_ok c.gather_all.result _ _ (λ after h order ordered seen at so.
    rows_below c.args.element.now (view c.args.value.now) c.in-Ok.step
    c.in-Ok.step.payload c.args.rows.now c.push.new.self c.gather_all.new.rows c.args.rank
    c.in_ok-next-in-Ok.next after order ordered
    (c.in-Ok.ensures order ordered) (search rules)
    c.in_ok-push-in-Ok.ensures.ok c.in_ok-next-in-Ok.ensures h seen at so)
    c.gather_all.ensures.rows

pub gather_here-returns-in-Err-clause-shape : goal.gather_here-returns-in-Err-clause-shape
gather_here-returns-in-Err-clause-shape t c = λ order ordered.
    let e = c.args.element.now in
    let v = view c.args.value.now in
    subst (λ (f : ValueFault). Shapes {A = ℕ} (Err f) (first_misshapen e v))
    (sym c.fault_here.ensures) (misfit_here c.in-Err.misfit e v (c.in-Err.ensures order ordered))

pub gather_all-returns-clause-shape : goal.gather_all-returns-clause-shape
gather_all-returns-clause-shape t c = λ o same all ordered.
    let ks = c.as_slice-kid-items.result.now in
    let kids = c.as_slice-kid-items.ensures in
    ap (λ l. among o 0 (map sendable l) (sent_by c.args.sent (children (map part_of l)))) (sym kids)
    ∙ loop_end o ks c.loop-place.place
    (sent_by c.loop-place.sent (children (map part_of (drop c.loop-place.place ks)))) _ (omega arith)
    (c.loop-place.invariant.shape o (subst AllInOrder (sym kids) all)
    (subst (λ l. AllOrdered (sent_by c.args.sent (children (map part_of l)))) (sym kids) ordered))

pub gather_all-returns-clause-rows : goal.gather_all-returns-clause-rows
gather_all-returns-clause-rows t c =
    walk_end c.as_slice-kid-items.result.now c.args.kids.now (sent_by c.args.sent)
    (sent_by c.loop-place.sent) c.args.rank c.args.rows.now c.loop-place.place
    c.loop-place.rank c.loop-place.rows c.as_slice-kid-items.ensures
    (none_left c.loop-place.sent) (omega arith) c.loop-place.invariant.rows

pub gather_all-loop-place-preserved : goal.gather_all-loop-place-preserved
gather_all-loop-place-preserved t c =
    let l = c.loop-place in
    let ks = c.as_slice-kid-items.result.now in
    let k : Element = c.kid-item.result in
    let lt : l.place < length ks = omega arith in
    let at : k ≡ get_or ks l.place k = ap (λ (x : Element). x) c.kid-item.is in
    let s = option_map (λ v. view v.now) c.take_next-next.result.value in
    let next = c.take_next-next.ensures in
    let turn = λ (ordered : AllOrdered (sent_by c.args.sent (children (map part_of ks)))).
    loop_order ks l.place k (sent_by l.sent)
    (sent_by c.take_next-next.result.rest) s lt at next (l.invariant.order ordered) in
    record {
      order = λ ordered. (turn ordered).1;
      shape = λ o all ordered.
          loop_shape o ks l.place k (sent_by l.sent)
          (sent_by c.take_next-next.result.rest) s _ lt at next (l.invariant.shape o all ordered)
          (c.in-Ok.ensures.shape (kid_order ks l.place k lt at all) (turn ordered).0);
      rows = λ all ordered seen size so.
          loop_rows ks (sent_by c.args.sent (children (map part_of ks))) seen c.args.rows.now l.place k (sent_by l.sent)
          (sent_by c.take_next-next.result.rest) s l.rank c.in-Ok.after l.rows c.gather.new.rows lt at next
          (l.invariant.rows all ordered seen size so)
          (c.in-Ok.ensures.rows (kid_order ks l.place k lt at all) (turn ordered).0);
    }

pub gather_all-returns-in_default : goal.gather_all-returns-in_default
gather_all-returns-in_default t c = record {
  shape = λ o same all ordered.
      let l = c.loop-place in
      let kids = c.as_slice-kid-items.ensures in
      unshaped c.in-Err.fault _ _ c.in_default.not-Shape
      (kid_shown c.in-Err.fault c.as_slice-kid-items.result.now l.place c.kid-item.result (sent_by l.sent)
      (sent_by c.take_next-next.result.rest) _ (omega arith) (ap (λ (x : Element). x) c.kid-item.is)
      c.take_next-next.ensures c.in-Err.ensures.shape (subst AllInOrder (sym kids) all)
      (l.invariant.order
      (subst (λ l. AllOrdered (sent_by c.args.sent (children (map part_of l)))) (sym kids) ordered)));
  rows = tt;
}

pub gather_all-returns-in-Err-clause-shape : goal.gather_all-returns-in-Err-clause-shape
gather_all-returns-in-Err-clause-shape t c = λ o same all ordered.
    let l = c.loop-place in
    let ks = c.as_slice-kid-items.result.now in
    let kids = c.as_slice-kid-items.ensures in
    let k : Element = c.kid-item.result in
    let lt : l.place < length ks = omega arith in
    let at : k ≡ get_or ks l.place k = ap (λ (x : Element). x) c.kid-item.is in
    let s = option_map (λ v. view v.now) c.take_next-next.result.value in
    let next = c.take_next-next.ensures in
    let mine = subst AllInOrder (sym kids) all in
    let sent = subst (λ l. AllOrdered (sent_by c.args.sent (children (map part_of l)))) (sym kids) ordered in
    let h = kid_shown c.in-Err.fault ks l.place k (sent_by l.sent) (sent_by c.take_next-next.result.rest) s lt at next
    c.in-Err.ensures.shape mine (l.invariant.order sent) in
    ap (λ l. among o 0 (map sendable l) (sent_by c.args.sent (children (map part_of l)))) (sym kids)
    ∙ loop_fault o (above_of c.args.above) ks l.place k (sent_by l.sent)
    (sent_by c.take_next-next.result.rest) s _ c.in-Shape.path.steps same lt at next
    (l.invariant.shape o mine sent)
    (subst (λ (f : ValueFault). Shapes {A = ℕ} (Err f) (misshapen k s)) c.in-Shape.is h)
    ∙ ap (λ p. Some p) (sym (ap (λ p. p.steps) c.in_ok-path-in-Err.ensures
    ∙ ap (λ s. s ∷ c.in-Shape.path.steps) c.in_ok-step_to-in-Err.ensures))
