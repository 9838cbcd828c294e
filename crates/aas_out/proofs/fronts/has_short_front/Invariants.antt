use Rattle.aas_out.specs.Fronts.{SameBetween}
use Rattle.aas_out.proofs.fronts.has_short_front.Given as goal

abbrev pub invariant-loop-i : goal.invariant-loop-i
invariant-loop-i l = SameBetween l.bytes l.piece 0 l.i
