use Rattle.std.proofs.Common.{sym, subst}
use Rattle.aas_out.proofs.Adding.{outcome_puts}
use Rattle.aas_out.specs.Told.{Puts}
use Rattle.aas_answer.specs.Plans.{plan_text}
use Rattle.aas_answer.proofs.plans.pour_plan.Goals as goal

pub returns : goal.returns
returns g c =
    let t = g.O.Out.told c.args.out.now in
    let u = g.O.Out.told c.pour_text.new.out in
    let text = plan_text (g.S.Store.documents c.args.store.now) c.args.plan.now in
    subst (λ r. Puts t u r text) (sym c.outcome.ensures) (outcome_puts c.pour_text.result t u text c.pour_text.ensures)
