use Rattle.std.proofs.Common.{◌≤◌}
use Rattle.aas_sheet_index.proofs.Measures.{Measuring}
use Rattle.aas_sheet_index.proofs.measuring.measure.Given as goal

abbrev pub invariant-loop-place : goal.invariant-loop-place
invariant-loop-place l = record { ordered : l.first ≤ l.place; sizes : Measuring l.initial.sides l.sides l.place }

abbrev pub decreases-loop-place : goal.decreases-loop-place
decreases-loop-place l = l.place
