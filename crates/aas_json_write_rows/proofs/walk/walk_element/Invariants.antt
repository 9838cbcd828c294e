use Rattle.std.specs.Prelude.{[], false}
use Rattle.aas_json_write_members.specs.Members.{all_stops}
use Rattle.aas_json_write_rows.specs.Walk.{remaining, turns}
use Rattle.aas_json_write_rows.proofs.Going.{Underway}
use Rattle.aas_json_write_rows.proofs.walk.walk_element.Given as goal

abbrev pub invariant-loop-walk : goal.invariant-loop-walk
invariant-loop-walk g l =
    let rows = g.R.Rows.lines l.rows in
    let whole = remaining l.fn.show rows [] l.fn.rank all_stops false in
    Underway l.fn.show rows whole l.walk l.fn.so_far l.state (g.O.TextEnd.told l.fn.out) (g.O.TextEnd.told l.out)

abbrev pub decreases-loop-walk : goal.decreases-loop-walk
decreases-loop-walk g l = turns l.fn.show (g.R.Rows.lines l.rows) l.walk
