use Rattle.std.proofs.Common.{◌≡◌, ◌≤◌, ◌-◌}
use Rattle.aas_rows.specs.Rows.{forest}
use Rattle.aas_sheet_rows.specs.Growing.{placed_of, rows_between}
use Rattle.aas_sheet_rows.proofs.growing.grow.Given as goal

abbrev pub invariant-loop-at : goal.invariant-loop-at
invariant-loop-at l = record {
  above : l.first ≤ l.at;
  inside : l.at ≤ l.end;
  grown : placed_of l.grown ≡ forest (rows_between l.rows l.sides l.at l.end);
}

abbrev pub decreases-loop-at : goal.decreases-loop-at
decreases-loop-at l = l.at - l.first
