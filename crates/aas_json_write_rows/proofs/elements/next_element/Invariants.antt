use Rattle.std.proofs.Common.{◌-◌, length}
use Rattle.aas_json_write_rows.proofs.Ahead.{Ahead}
use Rattle.aas_json_write_rows.proofs.elements.next_element.Given as goal

abbrev pub invariant-loop-row : goal.invariant-loop-row
invariant-loop-row g l = Ahead (g.R.Rows.lines l.rows) l.from l.at

abbrev pub decreases-loop-row : goal.decreases-loop-row
decreases-loop-row g l = length (g.R.Rows.lines l.rows) - l.at
