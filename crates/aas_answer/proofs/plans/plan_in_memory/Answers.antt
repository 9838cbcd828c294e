use Rattle.std.proofs.Common.{◌∙◌}
use Rattle.std.proofs.lemmas.Result.{IfOk-weaker}
use Rattle.aas_out.proofs.TextPoured.{text_poured}
use Rattle.aas_answer.specs.Plans.{plan_text}
use Rattle.aas_answer.proofs.plans.plan_in_memory.Goals as goal

pub returns : goal.returns
returns g c =
    let old = c.new-out.result in
    let new = c.pour_text-state.new.out in
    IfOk-weaker c.text_of.result _ _
    (λ text whole. whole.1 ∙ text_poured old.text.items new.text.items old.faults new.faults c.pour_text-state.result
    (plan_text (g.S.Store.documents c.args.store.now) c.args.plan.now) c.pour_text-state.ensures
    c.new-out.ensures whole.0)
    c.text_of.ensures
