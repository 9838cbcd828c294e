use Rattle.std.proofs.Common.{◌<◌, ◌≤◌, ◌++◌, [], ◌∷◌, Some, length, subst, sym, ap, ◌∙◌, if◌then◌else◌, arith}
use Rattle.serde_json.specs.Written.{compact_text}
use Rattle.aas_json_mapping.specs.Elements.{spell_element}
use Rattle.aas_model.specs.declared.element.Element.{out-Element}
use Rattle.aas_json_write_members.specs.Members.{closing, fields_text, later_after, opening, part, stop_name}
use Rattle.aas_json_write_members.specs.Members.{stops_from}
use Rattle.aas_json_write_members.specs.Script.{listed_text}
use Rattle.aas_out.specs.Adds.{Adds}
use Rattle.aas_out.proofs.Adding.{adds_both, adds_same}
use Rattle.aas_rows.specs.Rows.{Line}
use Rattle.aas_rows.specs.Views.{line_of}
use Rattle.aas_json_write_rows.specs.Trees.{all_shown, texts_at}
use Rattle.aas_json_write_rows.proofs.Whole.{kids_all, kids_as, kids_more, kids_past, kids_start, parts_end}
use Rattle.aas_json_write_rows.proofs.Whole.{parts_more, parts_start}
use Rattle.aas_json_write_rows.proofs.tree.+tree.Goals as goal
use Rattle.aas_json_write_rows.proofs.tree.+tree.Goals.{put_children-then-role_fits, put_children-else-role_fits}

pub pour_tree-loop-next-init : goal.pour_tree-loop-next-init
pour_tree-loop-next-init g t c =
    parts_start c.args.so_far c.add_text.result (g.O.TextEnd.told c.args.out.now) (g.O.TextEnd.told c.add_text.new.out)
    (line_of c.of_element-row.result) (out-Element c.args.element.now).kids c.add_text.ensures

pub pour_tree-loop-next-preserved : goal.pour_tree-loop-next-preserved
pour_tree-loop-next-preserved g t c =
    parts_more c.put_to_stop-pen.result.state (g.O.TextEnd.told c.put_to_stop-pen.new.out) c.in-Some.stop
    (stops_from c.next-next.result) c.put_to_stop-pen.result.later c.loop-next.invariant
    (ap (λ (l : Line). l.level) c.of_element-row.ensures)
    (ap stops_from c.in-Some.is ∙ ap (λ ss. c.in-Some.stop ∷ ss) (sym c.next-next.ensures))
    c.put_to_stop-pen.ensures.text c.put_to_stop-pen.ensures.later

pub pour_tree-returns : goal.pour_tree-returns
pour_tree-returns g t c =
    parts_end c.args.element.now c.put_part-last.result.state c.add_text-2.result
    (g.O.TextEnd.told c.put_part-last.new.out) (g.O.TextEnd.told c.add_text-2.new.out)
    c.loop-next.invariant c.of_element-row.ensures (ap stops_from c.in_default.is)
    c.put_part-last.ensures.text c.add_text-2.ensures

pub put_child-returns : goal.put_child-returns
put_child-returns g t c =
    let first = g.O.TextEnd.told c.args.out.now in
    let second = g.O.TextEnd.told c.add_text-opened.new.out in
    let third = g.O.TextEnd.told c.pour_tree-inner.new.out in
    let last = g.O.TextEnd.told c.add_text.new.out in
    let text = compact_text (spell_element c.args.kid.now) in
    adds_both c.args.so_far c.add_text-opened.result c.add_text.result first second last
    (opening c.args.stop) (text ++ closing c.args.stop)
    (adds_same c.args.so_far c.add_text-opened.result first second _ _ c.add_text-opened.ensures c.opening_of.ensures)
    (adds_both c.add_text-opened.result c.pour_tree-inner.result c.add_text.result second third last text
    (closing c.args.stop) c.pour_tree-inner.ensures
    (adds_same c.pour_tree-inner.result c.add_text.result third last _ _ c.add_text.ensures c.closing_of.ensures))

pub put_children-loop-kid-init : goal.put_children-loop-kid-init
put_children-loop-kid-init g t c =
    kids_start c.args.pen.state
    (g.O.TextEnd.told c.args.out.now) c.args.pen.later c.args.stop c.as_slice-kid-items.result.now

pub put_children-loop-kid-preserved : goal.put_children-loop-kid-preserved
put_children-loop-kid-preserved g t c =
    let below : c.loop-kid.kid-index < length c.as_slice-kid-items.result.now = omega arith in
    elim c.if-role_fits.branch [
      | put_children-then-role_fits w ↦
          kids_as c.if-role_fits.state (g.O.TextEnd.told c.if-role_fits.out) c.if-role_fits.any w.state-is
          (ap g.O.TextEnd.told w.out-is) w.any-is
          (kids_more w.put_before-before.result w.put_child-state.result (g.O.TextEnd.told w.put_before-before.new.out)
          (g.O.TextEnd.told w.put_child-state.new.out) c.kid-item.result c.loop-kid.invariant below c.kid-item.is
          (sym c.role_fits.ensures ∙ w.if-role_fits.true) w.put_before-before.ensures w.put_child-state.ensures)
      | put_children-else-role_fits w ↦
          kids_as c.if-role_fits.state (g.O.TextEnd.told c.if-role_fits.out) c.if-role_fits.any w.state-is
          (ap g.O.TextEnd.told w.out-is) w.any-is
          (kids_past c.kid-item.result c.loop-kid.invariant below c.kid-item.is
          (sym c.role_fits.ensures ∙ w.if-role_fits.false))
    ]

pub put_children-returns-then-any-clause-text : goal.put_children-returns-then-any-clause-text
put_children-returns-then-any-clause-text g t c =
    let over : length c.as_slice-kid-items.result.now ≤ c.loop-kid.kid-index = omega (arith, c.loop-kid-test.false) in
    adds_same c.args.pen.state c.add_text.result
    (g.O.TextEnd.told c.args.out.now) (g.O.TextEnd.told c.add_text.new.out) _ _
    (kids_all c.add_text.result
    (g.O.TextEnd.told c.add_text.new.out) c.loop-kid.invariant over c.if-any.true c.add_text.ensures)
    (ap (λ es. listed_text c.args.pen.later (stop_name c.args.stop) (texts_at c.args.stop es))
    c.as_slice-kid-items.ensures)

pub put_to_stop-returns-then-has_stop-clause-text : goal.put_to_stop-returns-then-has_stop-clause-text
put_to_stop-returns-then-has_stop-clause-text g t c =
    let stop = c.args.stop in
    let fields = part all_shown (line_of c.args.row.now) (Some stop) in
    let kids = texts_at stop c.args.kids.now in
    let first = g.O.TextEnd.told c.args.out.now in
    let second = g.O.TextEnd.told c.put_part-part.new.out in
    let last = g.O.TextEnd.told c.put_children.new.out in
    subst (λ b. Adds c.args.pen.state c.put_children.result.state first last (fields_text c.args.pen.later fields
    ++ listed_text (later_after c.args.pen.later fields) (stop_name stop) (if b then kids else [])))
    (sym c.if-has_stop.true ∙ c.has_stop.ensures)
    (adds_both c.args.pen.state c.put_part-part.result.state c.put_children.result.state first second last
    (fields_text c.args.pen.later fields)
    (listed_text (later_after c.args.pen.later fields) (stop_name stop) kids) c.put_part-part.ensures.text
    (subst (λ l.
    Adds c.put_part-part.result.state c.put_children.result.state second last (listed_text l (stop_name stop) kids))
    c.put_part-part.ensures.later c.put_children.ensures.text))
