use Rattle.std.proofs.Common.{◌-◌, ◌≤◌, length}
use Rattle.aas_out.specs.Fronts.{SameBetween}
use Rattle.aas_out.proofs.fronts.has_long_front.Given as goal

abbrev pub invariant-loop-at : goal.invariant-loop-at
invariant-loop-at l = (l.at ≤ length l.piece) × SameBetween l.bytes l.piece 0 l.at

abbrev pub decreases-loop-at : goal.decreases-loop-at
decreases-loop-at l = length l.piece - l.at
