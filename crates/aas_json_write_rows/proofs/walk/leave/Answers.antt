use Rattle.std.proofs.Common.{◌+◌, ◌<◌, ◌≤◌, length, ℕ, [], ◌∷◌, ◌++◌, List, true, false, ap, sym, ◌∙◌}
use Rattle.std.proofs.Common.{subst, arith}
use Rattle.aas_rows.specs.Rows.{Line}
use Rattle.aas_json_write_members.specs.Members.{all_stops, opening, closing, stops_from}
use Rattle.aas_rows.specs.Views.{line_of}
use Rattle.aas_json_write_rows.specs.Walk.{AreBelow, IsNested, is_begun, remaining, up}
use Rattle.aas_json_write_members.specs.Script.{at_stop}
use Rattle.aas_json_write_rows.specs.declared.walk.OpenElement.{OpenElement}
use Rattle.std.proofs.lemmas.Option.{same_Some}
use Rattle.aas_out.proofs.Adding.{adds_both, adds_same}
use Rattle.aas_json_write_rows.proofs.Going.{go_lost, not_done, go_next, go_up, none_there, some_there}
use Rattle.aas_json_write_rows.proofs.Going.{NoneThere, There, Leaving, fresh, left_at}
use Rattle.aas_json_write_rows.proofs.Looking.{below_none, below_both, below_more}
use Rattle.aas_json_write_rows.proofs.Open.{nested_room, nested_pop, nested_push}
use Rattle.aas_json_write_rows.proofs.walk.leave.Goals as goal

pub returns-in_default-row : goal.returns-in_default-row
returns-in_default-row g c = record {
  piece = [];
  parts =
      go_lost c.args.show (g.R.Rows.lines c.args.rows.now) c.args.walk.now.open.items c.pop.new.self.items
      c.in-Some.frame c.args.walk.now.rank c.in-Some.ensures.items (sym c.in_default-row.ensures.row);
  adds = c.add_text-in_default-row.ensures;
  kept = λ e. absurd (cc);
}

pub first_child-requires : goal.first_child-requires
first_child-requires g c =
    below_none (g.R.Rows.lines c.args.rows.now) c.in-Some-row.parent.level c.args.walk.now.after

pub push-requires : goal.push-requires
push-requires g c =
    let rows : List Line = g.R.Rows.lines c.args.rows.now in
    let nested : IsNested rows 0 (c.pop.new.self.items ++ c.in-Some.frame ∷ []) c.args.walk.now.rank =
    subst (λ (fs : List OpenElement). IsNested rows 0 fs c.args.walk.now.rank)
    c.in-Some.ensures.items c.requires.walk.nested in
    let room : 0 + length c.pop.new.self.items < c.in-Some-row.parent.level =
    nested_room rows 0 c.pop.new.self.items c.in-Some.frame.rank (line_of c.in-Some-row.parent)
    (nested_pop rows 0 c.pop.new.self.items c.in-Some.frame c.args.walk.now.rank nested)
    (sym c.in-Some-row.ensures.row) in
    let low : c.in-Some-row.parent.level ≤ 30 =
    c.requires.low c.in-Some.frame.rank (line_of c.in-Some-row.parent) (sym c.in-Some-row.ensures.row) in
    let short : length c.pop.new.self.items < 30 = omega (arith, room, low) in
    (omega arith, short)

pub returns-in-Child : goal.returns-in-Child
returns-in-Child g c =
    let rows : List Line = g.R.Rows.lines c.args.rows.now in
    let f : OpenElement = c.in-Some.frame in
    let fs : List OpenElement = c.pop.new.self.items in
    let r : Line = line_of c.in-Some-row.parent in
    let n : ℕ = c.args.walk.now.rank in
    let nested : IsNested rows 0 (fs ++ f ∷ []) n =
    subst (λ (fs : List OpenElement). IsNested rows 0 fs n) c.in-Some.ensures.items c.requires.walk.nested in
    let l : Leaving c.args.show rows r f.rank n c.args.walk.now.after =
    left_at c.args.show rows fs f n c.args.walk.now.after r c.requires.there.0 nested
    (sym c.in-Some-row.ensures.row) c.requires.there.1
    (c.requires.walk.passed (ap is_begun c.requires.last) c.requires.there.0 c.requires.there.1) in
    let t : There c.args.show rows r f.stop c.args.walk.now.after c.in-Child.child =
    some_there c.args.show rows r f.stop c.args.walk.now.after c.in-Child.child
    c.in-Child.ensures in
    let between : AreBelow rows r.level (f.rank + 1) c.in-Child.child =
    below_both rows r.level (f.rank + 1) c.args.walk.now.after c.in-Child.child l.below t.below in
    record {
      piece = closing f.stop ++ (44 ∷ (opening f.stop ++ 123 ∷ []));
      parts =
          ap (λ (xs : List OpenElement). up c.args.show rows (λ m. []) xs n) c.in-Some.ensures.items
          ∙ go_next c.args.show rows fs f n c.in-Child.child r t.row
          (sym c.in-Some-row.ensures.row) t.at (ap (at_stop c.args.show r f.stop) l.same ∙ t.first)
          ∙ ap (λ (xs : List OpenElement). (closing f.stop ++ (44 ∷ (opening f.stop ++ 123 ∷ [])))
          ++ remaining c.args.show rows xs c.in-Child.child all_stops false)
          (sym c.push.ensures.items)
          ∙ not_done c.args.walk.now.done (closing f.stop ++ (44 ∷ (opening f.stop ++ 123 ∷ [])))
          (remaining c.args.show rows c.push.new.self.items c.in-Child.child all_stops false) c.requires.going;
      adds =
          adds_both c.args.so_far c.add_text-closed.result c.put_open.result (g.O.TextEnd.told c.args.out.now)
          (g.O.TextEnd.told c.add_text-closed.new.out) (g.O.TextEnd.told c.put_open.new.out)
          (closing f.stop) (44 ∷ (opening f.stop ++ 123 ∷ []))
          (adds_same c.args.so_far c.add_text-closed.result (g.O.TextEnd.told c.args.out.now)
          (g.O.TextEnd.told c.add_text-closed.new.out) _ _ c.add_text-closed.ensures c.closing_of.ensures)
          (adds_both c.add_text-closed.result c.add_text-comma.result c.put_open.result
          (g.O.TextEnd.told c.add_text-closed.new.out) (g.O.TextEnd.told c.add_text-comma.new.out)
          (g.O.TextEnd.told c.put_open.new.out) (44 ∷ []) (opening f.stop ++ 123 ∷ []) c.add_text-comma.ensures
          c.put_open.ensures);
      kept = λ e. record {
        nested =
            subst (λ (xs : List OpenElement). IsNested rows 0 xs c.in-Child.child) (sym c.push.ensures.items)
            (nested_push rows 0 fs f c.in-Child.child r t.row (nested_pop rows 0 fs f n nested)
            (sym c.in-Some-row.ensures.row) t.at t.deep (omega (arith, between.order))
            (below_more rows r.level (f.rank + 1) c.in-Child.child t.row between t.at (omega (arith, t.deep))));
        passed = λ begun x at. fresh rows x.level _ _ begun;
      };
    }

pub returns-in-End : goal.returns-in-End
returns-in-End g c =
    let rows : List Line = g.R.Rows.lines c.args.rows.now in
    let f : OpenElement = c.in-Some.frame in
    let fs : List OpenElement = c.pop.new.self.items in
    let r : Line = line_of c.in-Some-row.parent in
    let n : ℕ = c.args.walk.now.rank in
    let nested : IsNested rows 0 (fs ++ f ∷ []) n =
    subst (λ (fs : List OpenElement). IsNested rows 0 fs n) c.in-Some.ensures.items c.requires.walk.nested in
    let l : Leaving c.args.show rows r f.rank n c.args.walk.now.after =
    left_at c.args.show rows fs f n c.args.walk.now.after r c.requires.there.0 nested
    (sym c.in-Some-row.ensures.row) c.requires.there.1
    (c.requires.walk.passed (ap is_begun c.requires.last) c.requires.there.0 c.requires.there.1) in
    let t : NoneThere c.args.show rows r f.stop c.args.walk.now.after c.in-End.end =
    none_there c.args.show rows r f.stop c.args.walk.now.after c.in-End.end
    c.in-End.ensures in
    let below : AreBelow rows r.level (f.rank + 1) c.in-End.end =
    below_both rows r.level (f.rank + 1) c.args.walk.now.after c.in-End.end l.below t.below in
    record {
      piece = closing f.stop ++ (93 ∷ []);
      parts =
          ap (λ (xs : List OpenElement). up c.args.show rows (λ m. []) xs n) c.in-Some.ensures.items
          ∙ go_up c.args.show rows fs f n r (sym c.in-Some-row.ensures.row)
          (ap (at_stop c.args.show r f.stop) l.same ∙ t.none)
          ∙ ap (λ ss. (closing f.stop ++ 93 ∷ []) ++ remaining c.args.show rows fs f.rank ss true)
          (sym c.next-walk.ensures)
          ∙ not_done c.args.walk.now.done (closing f.stop ++ 93 ∷ [])
          (remaining c.args.show rows fs f.rank (stops_from c.next-walk.result) true) c.requires.going;
      adds =
          adds_both c.args.so_far c.add_text-closed.result c.add_text-in-End.result
          (g.O.TextEnd.told c.args.out.now) (g.O.TextEnd.told c.add_text-closed.new.out)
          (g.O.TextEnd.told c.add_text-in-End.new.out) (closing f.stop) (93 ∷ [])
          (adds_same c.args.so_far c.add_text-closed.result (g.O.TextEnd.told c.args.out.now)
          (g.O.TextEnd.told c.add_text-closed.new.out) _ _ c.add_text-closed.ensures c.closing_of.ensures)
          c.add_text-in-End.ensures;
      kept = λ e. record {
        nested = nested_pop rows 0 fs f n nested;
        passed = λ begun x at.
            subst (λ (y : Line). AreBelow rows y.level (f.rank + 1) c.in-End.end)
            (same_Some r x (c.in-Some-row.ensures.row ∙ at)) below;
      };
    }
