use Rattle.std.proofs.Common.{◌≡◌, ◌-◌, length}
use Rattle.aas_answer.specs.Children.{child_from}
use Rattle.aas_answer.proofs.stored_rows.StoredRows.next_child.Given as goal

abbrev pub invariant-loop-row : goal.invariant-loop-row
invariant-loop-row g l = child_from l.from l.self ≡ child_from l.at l.self

abbrev pub decreases-loop-row : goal.decreases-loop-row
decreases-loop-row g l = length l.self - l.at
