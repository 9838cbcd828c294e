use Rattle.std.proofs.Common.{length}
use denote.Shadow.{shadow}
use denote.Text.{Utf8}
use Rattle.json.specs.Print.{escape}
use Rattle.aas_json_write_members.proofs.Putting.{Front}
use Rattle.aas_json_write_members.proofs.quoted.add_in_pieces.Given as goal

abbrev pub invariant-loop-rest : goal.invariant-loop-rest
invariant-loop-rest g l =
    shadow (Utf8 l.rest)
    × Front l.fn.so_far l.state (g.O.TextEnd.told l.fn.out) (g.O.TextEnd.told l.out) (escape l.fn.text) (escape l.rest)

abbrev pub decreases-loop-rest : goal.decreases-loop-rest
decreases-loop-rest g l = length l.rest
