use Rattle.std.proofs.Common.{vec_len, sym}
use Rattle.aas_path.proofs.Fronts.{front_stays}
use Rattle.aas_path.proofs.Utf8.{next}
use Rattle.aas_path.proofs.printing.print_further_steps.Goals as goal

pub returns-in_err-print_step-clause-front : goal.returns-in_err-print_step-clause-front
returns-in_err-print_step-clause-front c =
    let before = c.args.out.now in
    let so_far = c.loop-step.out in
    front_stays before.items so_far.items c.print_step.new.out.items _ (vec_len before) (vec_len so_far) (sym before.ok.0) (sym so_far.ok.0) c.loop-step.invariant.0 c.print_step.ensures.front

pub loop-step-preserved : goal.loop-step-preserved
loop-step-preserved c =
    next c.args.out.now.items c.loop-step.out.items c.print_step.new.out.items c.args.steps.now c.loop-step.step-index c.step-item.result
    c.loop-step-test.true c.step-item.is c.loop-step.invariant c.in_ok-print_step.ensures.ok c.in_ok-print_step.ensures.utf8
