use Rattle.std.proofs.Common.{List, ℕ, ◌+◌, ◌<◌, ◌≤◌, ◌∷◌, [], ◌++◌, true, false, length, drop, ap, sym, subst}
use Rattle.std.proofs.Common.{◌∙◌, arith}
use Rattle.std.proofs.lemmas.List.{at_drop_all}
use Rattle.json.specs.Print.{quoted}
use Rattle.serde_json.specs.Written.{comma_if, compact_text}
use Rattle.aas_json_members.proofs.Pairs.{spell_list, spell_map}
use Rattle.aas_json_spelling.specs.Kept.{spell_plain}
use Rattle.aas_out.specs.Adds.{Adds}
use Rattle.aas_out.proofs.Adding.{adds_both, adds_same}
use Rattle.aas_json_write_members.proofs.Putting.{front_more, front_none, front_rest, item_first, items_left}
use Rattle.aas_json_write_members.proofs.Putting.{pair_first, pairs_left}
use Rattle.aas_json_write_members.proofs.kept.+plain.Goals as goal

pub pour_plain-returns-in-List : goal.pour_plain-returns-in-List
pour_plain-returns-in-List g t c =
    let items = c.in-List.items in
    adds_same c.args.so_far c.pour_plains.result
    (g.O.TextEnd.told c.args.out.now) (g.O.TextEnd.told c.pour_plains.new.out) _ _
    (adds_both c.args.so_far c.add_text-opened.result c.pour_plains.result (g.O.TextEnd.told c.args.out.now)
    (g.O.TextEnd.told c.add_text-opened.new.out) (g.O.TextEnd.told c.pour_plains.new.out)
    (91 ∷ []) (items_left spell_plain false items) c.add_text-opened.ensures c.pour_plains.ensures)
    (ap compact_text (sym (spell_list items) ∙ ap spell_plain (sym c.in-List.is)))

pub pour_plain-returns-in-Map : goal.pour_plain-returns-in-Map
pour_plain-returns-in-Map g t c =
    let pairs = c.in-Map.pairs in
    adds_same c.args.so_far c.pour_pairs.result
    (g.O.TextEnd.told c.args.out.now) (g.O.TextEnd.told c.pour_pairs.new.out) _ _
    (adds_both c.args.so_far c.add_text-opened-in-Map.result c.pour_pairs.result (g.O.TextEnd.told c.args.out.now)
    (g.O.TextEnd.told c.add_text-opened-in-Map.new.out) (g.O.TextEnd.told c.pour_pairs.new.out)
    (123 ∷ []) (pairs_left false pairs) c.add_text-opened-in-Map.ensures c.pour_pairs.ensures)
    (ap compact_text (sym (spell_map pairs) ∙ ap spell_plain (sym c.in-Map.is)))

pub pour_plains-loop-plain-init : goal.pour_plains-loop-plain-init
pour_plains-loop-plain-init g t c =
    front_none c.args.so_far (g.O.TextEnd.told c.args.out.now)
    (items_left spell_plain false c.as_slice-plain-items.result.now)

pub pour_plains-loop-plain-preserved : goal.pour_plains-loop-plain-preserved
pour_plains-loop-plain-preserved g t c =
    let i = c.loop-plain.plain-index in
    let later = c.loop-plain.later in
    let plains = c.as_slice-plain-items.result.now in
    let plain = c.plain-item.result in
    let value = compact_text (spell_plain plain) in
    let below : i < length plains = omega arith in
    front_more c.pour_plain-state.result (g.O.TextEnd.told c.pour_plain-state.new.out)
    (comma_if later ++ value) (items_left spell_plain true (drop (i + 1) plains)) c.loop-plain.invariant
    (adds_both c.loop-plain.state c.add_text-comma.result c.pour_plain-state.result (g.O.TextEnd.told c.loop-plain.out)
    (g.O.TextEnd.told c.add_text-comma.new.out) (g.O.TextEnd.told c.pour_plain-state.new.out) (comma_if later) value
    (subst (λ (t : List ℕ). Adds c.loop-plain.state c.add_text-comma.result
    (g.O.TextEnd.told c.loop-plain.out) (g.O.TextEnd.told c.add_text-comma.new.out) t)
    c.comma_of.ensures c.add_text-comma.ensures)
    c.pour_plain-state.ensures)
    (item_first spell_plain later plains i plain below c.plain-item.is)

pub pour_plains-returns : goal.pour_plains-returns
pour_plains-returns g t c =
    let plains = c.as_slice-plain-items.result.now in
    let i = c.loop-plain.plain-index in
    let over : length plains ≤ i = omega arith in
    adds_same c.args.so_far c.add_text.result
    (g.O.TextEnd.told c.args.out.now) (g.O.TextEnd.told c.add_text.new.out) _ _
    (front_rest c.add_text.result (g.O.TextEnd.told c.add_text.new.out) c.loop-plain.invariant
    (adds_same c.loop-plain.state c.add_text.result (g.O.TextEnd.told c.loop-plain.out)
    (g.O.TextEnd.told c.add_text.new.out) _ _ c.add_text.ensures
    (sym (at_drop_all (items_left spell_plain c.loop-plain.later) plains i over))))
    (ap (items_left spell_plain false) c.as_slice-plain-items.ensures)

pub pour_pairs-loop-pair-init : goal.pour_pairs-loop-pair-init
pour_pairs-loop-pair-init g t c =
    front_none c.args.so_far (g.O.TextEnd.told c.args.out.now) (pairs_left false c.as_slice-pair-items.result.now)

pub pour_pairs-loop-pair-preserved : goal.pour_pairs-loop-pair-preserved
pour_pairs-loop-pair-preserved g t c =
    let i = c.loop-pair.pair-index in
    let later = c.loop-pair.pen.later in
    let pairs = c.as_slice-pair-items.result.now in
    let pair = c.pair-item.result in
    let value = compact_text (spell_plain pair.value) in
    let name = comma_if later ++ (quoted c.as_str.result.now ++ 58 ∷ []) in
    let below : i < length pairs = omega arith in
    front_more c.pour_plain.result (g.O.TextEnd.told c.pour_plain.new.out)
    (name ++ value) (pairs_left true (drop (i + 1) pairs)) c.loop-pair.invariant
    (adds_both c.loop-pair.pen.state c.add_any_name-named.result c.pour_plain.result
    (g.O.TextEnd.told c.loop-pair.out) (g.O.TextEnd.told c.add_any_name-named.new.out)
    (g.O.TextEnd.told c.pour_plain.new.out) name value c.add_any_name-named.ensures c.pour_plain.ensures)
    (pair_first later pairs i pair c.as_str.result.now below c.pair-item.is c.as_str.ensures.bytes)

pub pour_pairs-returns : goal.pour_pairs-returns
pour_pairs-returns g t c =
    let pairs = c.as_slice-pair-items.result.now in
    let i = c.loop-pair.pair-index in
    let over : length pairs ≤ i = omega arith in
    adds_same c.args.so_far c.end_object.result
    (g.O.TextEnd.told c.args.out.now) (g.O.TextEnd.told c.end_object.new.out) _ _
    (front_rest c.end_object.result (g.O.TextEnd.told c.end_object.new.out) c.loop-pair.invariant
    (adds_same c.loop-pair.pen.state c.end_object.result (g.O.TextEnd.told c.loop-pair.out)
    (g.O.TextEnd.told c.end_object.new.out) _ _ c.end_object.ensures
    (sym (at_drop_all (pairs_left c.loop-pair.pen.later) pairs i over))))
    (ap (pairs_left false) c.as_slice-pair-items.ensures)
