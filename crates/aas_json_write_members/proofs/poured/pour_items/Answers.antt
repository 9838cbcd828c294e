use Rattle.std.proofs.Common.{List, ℕ, ◌+◌, ◌<◌, ◌≤◌, ◌++◌, true, false, length, drop, sym, subst, arith}
use Rattle.std.proofs.lemmas.List.{at_drop_all}
use Rattle.serde_json.specs.Written.{comma_if, compact_text}
use Rattle.aas_out.specs.Adds.{Adds}
use Rattle.aas_out.proofs.Adding.{adds_both, adds_same}
use Rattle.aas_json_write_members.proofs.Putting.{front_more, front_none, front_rest, item_first, items_left}
use Rattle.aas_json_write_members.proofs.poured.pour_items.Goals as goal

pub loop-tree-init : goal.loop-tree-init
loop-tree-init g c =
    front_none c.args.so_far (g.O.TextEnd.told c.args.out.now) (items_left g.P.Poured.spell false c.args.trees.now)

pub loop-tree-preserved : goal.loop-tree-preserved
loop-tree-preserved g c =
    let i = c.loop-tree.tree-index in
    let later = c.loop-tree.later in
    let trees = c.args.trees.now in
    let tree = c.tree-item.result in
    let value = compact_text (g.P.Poured.spell tree) in
    let below : i < length trees = omega arith in
    front_more c.pour-state.result (g.O.TextEnd.told c.pour-state.new.out) (comma_if later ++ value)
    (items_left g.P.Poured.spell true (drop (i + 1) trees)) c.loop-tree.invariant
    (adds_both c.loop-tree.state c.add_text-comma.result c.pour-state.result (g.O.TextEnd.told c.loop-tree.out)
    (g.O.TextEnd.told c.add_text-comma.new.out) (g.O.TextEnd.told c.pour-state.new.out) (comma_if later) value
    (subst (λ (t : List ℕ). Adds c.loop-tree.state c.add_text-comma.result
    (g.O.TextEnd.told c.loop-tree.out) (g.O.TextEnd.told c.add_text-comma.new.out) t)
    c.comma_of.ensures c.add_text-comma.ensures)
    c.pour-state.ensures)
    (item_first g.P.Poured.spell later trees i tree below c.tree-item.is)

pub returns : goal.returns
returns g c =
    let trees = c.args.trees.now in
    let i = c.loop-tree.tree-index in
    let over : length trees ≤ i = omega arith in
    front_rest c.add_text.result (g.O.TextEnd.told c.add_text.new.out) c.loop-tree.invariant
    (adds_same c.loop-tree.state c.add_text.result (g.O.TextEnd.told c.loop-tree.out)
    (g.O.TextEnd.told c.add_text.new.out) _ _ c.add_text.ensures
    (sym (at_drop_all (items_left g.P.Poured.spell c.loop-tree.later) trees i over)))
