use Rattle.std.proofs.Common.{sym, ◌∙◌}
use Rattle.serde_json.specs.View.{view}
use Rattle.aas_value_patch.proofs.Updated.{Whole, whole_walk, updated, formless, patch_fault}
use Rattle.aas_value_patch.proofs.patch.patch_for.Goals as goal

pub returns-then-not-has_form-clause-fault : goal.returns-then-not-has_form-clause-fault
returns-then-not-has_form-clause-fault c = formless c.args.element.now (sym c.has_form.ensures ∙ c.if-not-has_form.true)

pub returns-in_err-gather_here-clause-fault : goal.returns-in_err-gather_here-clause-fault
returns-in_err-gather_here-clause-fault c =
    patch_fault c.from_residual.result c.in_err-gather_here.field-0.0 c.args.element.now (view c.args.value.now)
    (sym c.has_form.ensures ∙ c.if-not-has_form.false)
    c.from_residual.ensures.0 c.from_residual.ensures.1
    (c.in_err-gather_here.ensures.shape c.requires.in_order c.requires.ordered)

pub returns : goal.returns
returns c =
    let e = c.args.element.now in
    let v = view c.args.value.now in
    let w : Whole e v c.gather_here.new.rows =
    whole_walk e v c.new-rows.result c.gather_here.new.rows c.in_ok-gather_here.field-0
    c.new-rows.ensures c.requires.in_order c.requires.ordered
    c.in_ok-gather_here.ensures.rows in
    record {
      fits = w.fit;
      update =
          updated e _ v (sym c.has_form.ensures ∙ c.if-not-has_form.false)
          (c.in_ok-gather_here.ensures.shape c.requires.in_order c.requires.ordered)
          w.taken;
      fault = tt;
    }
