use Rattle.std.proofs.Common.{◌∷◌, sym, subst, arith}
use Rattle.std.proofs.lemmas.List.{nil_from_length}
use Rattle.aas_path.specs.ParseFaults.{IsPathFault}
use Rattle.aas_path.specs.PathText.{IsPath}
use Rattle.aas_path.specs.StepText.{IsStep}
use Rattle.aas_path.proofs.PathSteps.{read_length, read_all, read_fails, one_path}
use Rattle.aas_path.proofs.parsing.parse_path.Goals as goal

pub overflow_sub-read : goal.overflow_sub-read
overflow_sub-read c = omega (arith, read_length c.args.text.now c.loop-step.steps c.loop-step.lead c.loop-step.rest.now c.loop-step.invariant)

pub returns-in-empty-clause-path : goal.returns-in-empty-clause-path
returns-in-empty-clause-path c =
    let l = c.loop-step in
    let last = subst (IsStep (l.lead ∷ l.rest.now) c.in-Ok.step) (nil_from_length c.in-Ok.next.now (omega arith)) c.in-Ok.ensures in
    subst (IsPath c.args.text.now) (sym c.in_ok-push-in-Ok.ensures.ok) (read_all c.args.text.now l.steps l.lead l.rest.now c.in-Ok.step l.invariant last)

pub returns-in-empty-clause-only : goal.returns-in-empty-clause-only
returns-in-empty-clause-only c = λ p is.
    let l = c.loop-step in
    let last = subst (IsStep (l.lead ∷ l.rest.now) c.in-Ok.step) (nil_from_length c.in-Ok.next.now (omega arith)) c.in-Ok.ensures in
    one_path c.args.text.now c.push.new.self p
    (subst (IsPath c.args.text.now) (sym c.in_ok-push-in-Ok.ensures.ok) (read_all c.args.text.now l.steps l.lead l.rest.now c.in-Ok.step l.invariant last)) is

pub returns-in-Err-clause-bad : goal.returns-in-Err-clause-bad
returns-in-Err-clause-bad c =
    let l = c.loop-step in
    subst (IsPathFault c.args.text.now) (sym c.behind.ensures) (read_fails c.args.text.now l.steps l.lead l.rest.now c.in-Err.fault l.invariant c.in-Err.ensures)
