use Rattle.std.proofs.Common.{}
use Rattle.aas_sheet_index.proofs.Above.{Left}
use Rattle.aas_sheet_index.proofs.measuring.measure_above.Given as goal

abbrev pub invariant-loop-rank : goal.invariant-loop-rank
invariant-loop-rank l = record {
  can_next : (goal.iterator-loop-rank).can_next l.rank-iterator;
  is_finite : (goal.iterator-loop-rank).is_finite l.rank-iterator;
  left : Left l.initial.sides l.sides l.first l.known l.end l.place l.level;
}

abbrev pub invariant-loop-place : goal.invariant-loop-place
invariant-loop-place l = Left l.fn.sides l.sides l.first l.known l.end l.place l.level

abbrev pub decreases-loop-place : goal.decreases-loop-place
decreases-loop-place l = l.place
