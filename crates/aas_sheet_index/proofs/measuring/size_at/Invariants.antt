use Rattle.std.proofs.Common.{◌+◌, ◌-◌, length}
use Rattle.aas_sheet_index.proofs.Measures.{Counted}
use Rattle.aas_sheet_index.proofs.measuring.size_at.Given as goal

abbrev pub invariant-loop-end : goal.invariant-loop-end
invariant-loop-end l = Counted l.sides l.level (l.place + 1) l.end

abbrev pub decreases-loop-end : goal.decreases-loop-end
decreases-loop-end l = length l.sides - l.end
