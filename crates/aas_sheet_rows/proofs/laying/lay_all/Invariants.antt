use Rattle.std.proofs.Common.{length}
use Rattle.aas_rows.specs.Rows.{lines}
use Rattle.aas_sheet_index.specs.Index.{AreKeyed}
use Rattle.aas_sheet_rows.specs.Growing.{placed_of}
use Rattle.aas_sheet_rows.proofs.Laid.{Laying}
use Rattle.aas_sheet_rows.proofs.laying.lay_all.Given as goal

abbrev pub invariant-loop-waiting : goal.invariant-loop-waiting
invariant-loop-waiting l =
    Laying l.fn.rows l.fn.sides l.fn.elements l.level l.rows l.sides l.waiting
    × (AreKeyed l.fn.sides → AreKeyed l.sides)

abbrev pub decreases-loop-waiting : goal.decreases-loop-waiting
decreases-loop-waiting l = length (lines (placed_of l.waiting))
