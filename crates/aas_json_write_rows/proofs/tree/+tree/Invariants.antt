use Rattle.aas_model.specs.declared.element.Element.{out-Element}
use Rattle.aas_json_write_members.specs.Members.{stops_from, stops_left}
use Rattle.aas_rows.specs.Views.{line_of}
use Rattle.aas_json_write_rows.proofs.Whole.{Kids, Parts}
use Rattle.aas_json_write_rows.proofs.tree.+tree.Given as goal

abbrev pub invariant-pour_tree-loop-next : goal.invariant-pour_tree-loop-next
invariant-pour_tree-loop-next g l =
    Parts l.fn.so_far l.pen.state (g.O.TextEnd.told l.fn.out) (g.O.TextEnd.told l.out)
    (line_of l.row) (out-Element l.element).kids (stops_from l.next) l.pen.later

abbrev pub decreases-pour_tree-loop-next : goal.decreases-pour_tree-loop-next
decreases-pour_tree-loop-next g l = stops_left l.next

abbrev pub invariant-put_children-loop-kid : goal.invariant-put_children-loop-kid
invariant-put_children-loop-kid g l =
    Kids l.fn.pen.state l.state (g.O.TextEnd.told l.fn.out)
    (g.O.TextEnd.told l.out) l.fn.pen.later l.stop l.kid-items l.any l.kid-index
