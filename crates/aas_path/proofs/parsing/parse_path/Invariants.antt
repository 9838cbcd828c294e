use Rattle.std.proofs.Common.{length}
use Rattle.aas_path.proofs.PathSteps.{Read}
use Rattle.aas_path.proofs.parsing.parse_path.Given as goal

abbrev pub invariant-loop-step : goal.invariant-loop-step
invariant-loop-step l = Read l.text l.steps l.lead l.rest

abbrev pub decreases-loop-step : goal.decreases-loop-step
decreases-loop-step l = length l.rest
