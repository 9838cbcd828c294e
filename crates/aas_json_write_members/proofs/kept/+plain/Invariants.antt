use Rattle.std.proofs.Common.{false, drop}
use Rattle.aas_json_spelling.specs.Kept.{spell_plain}
use Rattle.aas_json_write_members.proofs.Putting.{Front, items_left, pairs_left}
use Rattle.aas_json_write_members.proofs.kept.+plain.Given as goal

-- what is left is still to put
abbrev pub invariant-pour_plains-loop-plain : goal.invariant-pour_plains-loop-plain
invariant-pour_plains-loop-plain g l =
    Front l.fn.so_far l.state (g.O.TextEnd.told l.fn.out) (g.O.TextEnd.told l.out)
    (items_left spell_plain false l.plain-items) (items_left spell_plain l.later (drop l.plain-index l.plain-items))

abbrev pub invariant-pour_pairs-loop-pair : goal.invariant-pour_pairs-loop-pair
invariant-pour_pairs-loop-pair g l =
    Front l.fn.so_far l.pen.state (g.O.TextEnd.told l.fn.out) (g.O.TextEnd.told l.out)
    (pairs_left false l.pair-items) (pairs_left l.pen.later (drop l.pair-index l.pair-items))
