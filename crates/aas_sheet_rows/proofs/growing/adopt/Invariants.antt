use Rattle.std.proofs.Common.{length}
use Rattle.aas_sheet_rows.proofs.Grove.{Adopting}
use Rattle.aas_sheet_rows.proofs.growing.adopt.Given as goal

abbrev pub invariant-loop-grown : goal.invariant-loop-grown
invariant-loop-grown l = Adopting l.level l.fn.grown l.grown l.kids

abbrev pub decreases-loop-grown : goal.decreases-loop-grown
decreases-loop-grown l = length l.grown
