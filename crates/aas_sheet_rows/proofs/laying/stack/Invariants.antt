use Rattle.std.proofs.Common.{◌≡◌, ◌++◌, length}
use Rattle.aas_rows.specs.Rows.{all_at}
use Rattle.aas_sheet_rows.specs.Growing.{placed_of}
use Rattle.aas_sheet_rows.proofs.laying.stack.Given as goal

abbrev pub invariant-loop-elements : goal.invariant-loop-elements
invariant-loop-elements l =
    all_at l.level l.initial.elements ++ placed_of l.initial.waiting ≡ all_at l.level l.elements ++ placed_of l.waiting

abbrev pub decreases-loop-elements : goal.decreases-loop-elements
decreases-loop-elements l = length l.elements
