use Rattle.std.proofs.Common.{◌-◌, length}
use Rattle.aas_json_write_rows.proofs.Ahead.{Further}
use Rattle.aas_json_write_rows.proofs.elements.pour_further.Given as goal

abbrev pub invariant-loop-next : goal.invariant-loop-next
invariant-loop-next g l =
    Further l.fn.show (g.R.Rows.lines l.rows) l.fn.from l.at l.fn.so_far l.state
    (g.O.TextEnd.told l.fn.out) (g.O.TextEnd.told l.out)

abbrev pub decreases-loop-next : goal.decreases-loop-next
decreases-loop-next g l = length (g.R.Rows.lines l.rows) - l.at
