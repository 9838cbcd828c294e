use Rattle.std.proofs.Common.{◌≡◌, take}
use Rattle.aas_step.proofs.lost.front.Given as goal

abbrev pub invariant-loop-step : goal.invariant-loop-step
invariant-loop-step l = l.front ≡ take l.step-index l.first
