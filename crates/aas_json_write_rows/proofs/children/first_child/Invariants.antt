use Rattle.std.proofs.Common.{◌-◌, length}
use Rattle.aas_rows.specs.Views.{line_of}
use Rattle.aas_json_write_rows.proofs.Looking.{Looking}
use Rattle.aas_json_write_rows.proofs.children.first_child.Given as goal

abbrev pub invariant-loop-child : goal.invariant-loop-child
invariant-loop-child g l = Looking l.fn.show (g.R.Rows.lines l.rows) (line_of l.row) l.stop l.from l.at

abbrev pub decreases-loop-child : goal.decreases-loop-child
decreases-loop-child g l = length (g.R.Rows.lines l.rows) - l.at
