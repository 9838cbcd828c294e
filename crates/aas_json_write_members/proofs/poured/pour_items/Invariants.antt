use Rattle.std.proofs.Common.{false, drop}
use Rattle.aas_json_write_members.proofs.Putting.{Front, items_left}
use Rattle.aas_json_write_members.proofs.poured.pour_items.Given as goal

abbrev pub invariant-loop-tree : goal.invariant-loop-tree
invariant-loop-tree g l =
    Front l.fn.so_far l.state (g.O.TextEnd.told l.fn.out) (g.O.TextEnd.told l.out)
    (items_left g.P.Poured.spell false l.trees) (items_left g.P.Poured.spell l.later (drop l.tree-index l.trees))
