use Rattle.std.proofs.Common.{◌≡◌, ◌+◌, ◌<◌, ◌≤◌, length, ℕ, [], ◌∷◌, ◌++◌, List, Some, None, false, ap, ap₂, sym, ◌∙◌}
use Rattle.std.proofs.Common.{subst, arith, append_assoc}
use Rattle.std.proofs.lemmas.Option.{slice_get_within, same_Some}
use Rattle.aas_rows.specs.Rows.{Line}
use Rattle.aas_out.specs.Adds.{Adds}
use Rattle.aas_json_write_members.specs.Members.{all_stops, opening, part, fields_text, field_text, later_after}
use Rattle.aas_json_write_members.specs.Members.{stop_name, stops_behind, stops_from, stops_left}
use Rattle.aas_rows.specs.Views.{line_of}
use Rattle.aas_json_write_members.specs.Script.{script}
use Rattle.aas_json_write_members.specs.declared.stops.Stop.{Stop}
use Rattle.aas_json_write_members.specs.declared.stops.Stop.TheVariants as stop
use Rattle.aas_json_write_rows.specs.Poured.{if_row, kids_at}
use Rattle.aas_json_write_rows.specs.Walk.{AreBelow, IsNested, remaining, up, walk_left}
use Rattle.aas_json_write_rows.proofs.Bare.{long_front, script_some}
use Rattle.aas_json_write_rows.specs.declared.walk.OpenElement.{OpenElement}
use Rattle.aas_out.proofs.Adding.{adds_both}
use Rattle.aas_json_write_rows.proofs.Going.{go_in, go_on, go_out, lost, none_there, some_there, NoneThere, There}
use Rattle.aas_json_write_rows.proofs.Going.{not_done, is_going, less_by, less_part, some_last, some_open, passed_so}
use Rattle.aas_json_write_rows.proofs.Going.{fresh, not_begun, one_less}
use Rattle.aas_json_write_rows.proofs.Looking.{below_more}
use Rattle.aas_json_write_rows.proofs.Open.{nested_room, nested_push}
use Rattle.aas_json_write_rows.proofs.walk.step.Goals as goal

pub returns-in_default-clause-poured : goal.returns-in_default-clause-poured
returns-in_default-clause-poured g c = record {
  piece = [];
  parts =
      is_going c.args.walk.now.done
      (remaining c.args.show (g.R.Rows.lines c.args.rows.now) c.args.walk.now.open.items
      c.args.walk.now.rank (stops_from c.args.walk.now.next) c.args.walk.now.later)
      c.requires.going
      ∙ lost c.args.show (g.R.Rows.lines c.args.rows.now) c.args.walk.now.open.items
      c.args.walk.now.rank (stops_from c.args.walk.now.next) c.args.walk.now.later (sym c.in_default.ensures.row);
  adds = c.add_text.ensures;
  kept = λ e. absurd (cc);
}

pub overflow_add-start : goal.overflow_add-start
overflow_add-start g c =
    let h : c.args.walk.now.rank < length (g.R.Rows.lines c.args.rows.now) =
    slice_get_within (g.R.Rows.lines c.args.rows.now) c.args.walk.now.rank
    (line_of c.in-Some.row) (sym c.in-Some.ensures.row) in
    omega (arith, c.row.ensures.short)

pub leave-requires-clause-there : goal.leave-requires-clause-there
leave-requires-clause-there g c =
    let rows : List Line = g.R.Rows.lines c.args.rows.now in
    let room : 0 + length c.args.walk.now.open.items < c.in-Some.row.level =
    nested_room rows 0 c.args.walk.now.open.items c.args.walk.now.rank
    (line_of c.in-Some.row) c.requires.walk.nested (sym c.in-Some.ensures.row) in
    (line_of c.in-Some.row, sym c.in-Some.ensures.row, omega (arith, room))

pub leave-requires-in_default-next-clause-there : goal.leave-requires-in_default-next-clause-there
leave-requires-in_default-next-clause-there g c =
    let rows : List Line = g.R.Rows.lines c.args.rows.now in
    let room : 0 + length c.args.walk.now.open.items < c.in-Some.row.level =
    nested_room rows 0 c.args.walk.now.open.items c.args.walk.now.rank
    (line_of c.in-Some.row) c.requires.walk.nested (sym c.in-Some.ensures.row) in
    (line_of c.in-Some.row, sym c.in-Some.ensures.row, omega (arith, room))

pub first_child-requires : goal.first_child-requires
first_child-requires g c =
    passed_so (g.R.Rows.lines c.args.rows.now) (line_of c.in-Some.row) c.args.walk.now.rank
    c.args.walk.now.after c.passed_to-after.result c.args.walk.now.next
    (λ begun. c.requires.walk.passed begun (line_of c.in-Some.row) (sym c.in-Some.ensures.row))
    c.passed_to-after.ensures

pub returns-then-is_childless-clause-poured : goal.returns-then-is_childless-clause-poured
returns-then-is_childless-clause-poured g c =
    let rows : List Line = g.R.Rows.lines c.args.rows.now in
    let fs : List OpenElement = c.args.walk.now.open.items in
    let r : Line = line_of c.in-Some.row in
    let n : ℕ = c.args.walk.now.rank in
    let later = c.args.walk.now.later in
    let fresh : stops_from c.args.walk.now.next ≡ all_stops = not_begun c.args.walk.now.next (cc) in
    let whole : List ℕ = script c.args.show r (kids_at c.args.show rows r n) all_stops later in record {
      piece = whole ++ c.leave.ensures.piece;
      parts =
          is_going c.args.walk.now.done
          (remaining c.args.show rows fs n (stops_from c.args.walk.now.next) later) c.requires.going
          ∙ ap (λ ss. remaining c.args.show rows fs n ss later) fresh
          ∙ ap (λ o. if_row o (λ r.
          script c.args.show r (kids_at c.args.show rows r n) all_stops later ++ up c.args.show rows (λ m. []) fs n))
          (sym c.in-Some.ensures.row)
          ∙ ap (λ t. whole ++ t) c.leave.ensures.parts
          ∙ sym (append_assoc whole c.leave.ensures.piece (walk_left c.args.show rows c.leave.new.walk));
      adds =
          adds_both c.args.so_far c.put_childless-put.result c.leave.result (g.O.TextEnd.told c.args.out.now)
          (g.O.TextEnd.told c.put_childless-put.new.out) (g.O.TextEnd.told c.leave.new.out) whole c.leave.ensures.piece
          (c.put_childless-put.ensures (kids_at c.args.show rows r n)) c.leave.ensures.adds;
      kept = c.leave.ensures.kept;
    }

pub returns-then-is_childless-clause-less : goal.returns-then-is_childless-clause-less
unfolding returns-then-is_childless-clause-poured
returns-then-is_childless-clause-less g c going =
    let p = returns-then-is_childless-clause-poured g c in
    let rows : List Line = g.R.Rows.lines c.args.rows.now in
    let r : Line = line_of c.in-Some.row in
    less_by (walk_left c.args.show rows c.args.walk.now) p.piece
    (walk_left c.args.show rows c.leave.new.walk) c.leave.new.walk.next c.args.walk.now.next p.parts
    (long_front (script c.args.show r (kids_at c.args.show rows r c.args.walk.now.rank) all_stops
    c.args.walk.now.later)
    c.leave.ensures.piece
    (script_some c.args.show r (kids_at c.args.show rows r c.args.walk.now.rank) all_stops c.args.walk.now.later))

pub returns-in_default-next-clause-poured : goal.returns-in_default-next-clause-poured
returns-in_default-next-clause-poured g c =
    let rows : List Line = g.R.Rows.lines c.args.rows.now in
    let fs : List OpenElement = c.args.walk.now.open.items in
    let r : Line = line_of c.in-Some.row in
    let n : ℕ = c.args.walk.now.rank in
    let later = c.args.walk.now.later in
    let fields : List ℕ = fields_text later (part c.args.show r None) in
    record {
      piece = (fields ++ 125 ∷ []) ++ c.leave-in_default-next.ensures.piece;
      parts =
          is_going c.args.walk.now.done
          (remaining c.args.show rows fs n (stops_from c.args.walk.now.next) later) c.requires.going
          ∙ ap (λ next. remaining c.args.show rows fs n (stops_from next) later) c.in_default-next.is
          ∙ go_out c.args.show rows fs n later r (sym c.in-Some.ensures.row)
          ∙ ap (λ t. (fields ++ 125 ∷ []) ++ t) c.leave-in_default-next.ensures.parts
          ∙ sym (append_assoc (fields ++ 125 ∷ []) c.leave-in_default-next.ensures.piece
          (walk_left c.args.show rows c.leave-in_default-next.new.walk));
      adds =
          adds_both c.args.so_far c.add_text-closed.result c.leave-in_default-next.result
          (g.O.TextEnd.told c.args.out.now) (g.O.TextEnd.told c.add_text-closed.new.out)
          (g.O.TextEnd.told c.leave-in_default-next.new.out) (fields ++ 125 ∷ []) c.leave-in_default-next.ensures.piece
          (adds_both c.args.so_far c.put_part-last.result.state c.add_text-closed.result
          (g.O.TextEnd.told c.args.out.now) (g.O.TextEnd.told c.put_part-last.new.out)
          (g.O.TextEnd.told c.add_text-closed.new.out) fields (125 ∷ []) c.put_part-last.ensures.text
          c.add_text-closed.ensures)
          c.leave-in_default-next.ensures.adds;
      kept = c.leave-in_default-next.ensures.kept;
    }

pub returns-in_default-next-clause-less : goal.returns-in_default-next-clause-less
unfolding returns-in_default-next-clause-poured part
returns-in_default-next-clause-less g c going =
    let p = returns-in_default-next-clause-poured g c in
    less_by (walk_left c.args.show (g.R.Rows.lines c.args.rows.now) c.args.walk.now) p.piece
    (walk_left c.args.show (g.R.Rows.lines c.args.rows.now) c.leave-in_default-next.new.walk)
    c.leave-in_default-next.new.walk.next c.args.walk.now.next p.parts
    (some_last (fields_text c.args.walk.now.later (part c.args.show (line_of c.in-Some.row) None))
    c.leave-in_default-next.ensures.piece 125)

pub push-requires : goal.push-requires
push-requires g c =
    let rows : List Line = g.R.Rows.lines c.args.rows.now in
    let room : 0 + length c.args.walk.now.open.items < c.in-Some.row.level =
    nested_room rows 0 c.args.walk.now.open.items c.args.walk.now.rank
    (line_of c.in-Some.row) c.requires.walk.nested (sym c.in-Some.ensures.row) in
    let low : c.in-Some.row.level ≤ 30 =
    c.requires.low c.args.walk.now.rank (line_of c.in-Some.row) (sym c.in-Some.ensures.row) in
    let short : length c.args.walk.now.open.items < 30 = omega (arith, room, low) in
    (omega arith, short)

pub returns-in-Child-clause-poured : goal.returns-in-Child-clause-poured
returns-in-Child-clause-poured g c =
    let rows : List Line = g.R.Rows.lines c.args.rows.now in
    let fs : List OpenElement = c.args.walk.now.open.items in
    let r : Line = line_of c.in-Some.row in
    let n : ℕ = c.args.walk.now.rank in
    let later = c.args.walk.now.later in
    let s : Stop = c.in-Some-next.stop in
    let f : OpenElement = record { rank = n; stop = s } in
    let m : ℕ = c.in-Child.child in
    let fields : List ℕ = fields_text later (part c.args.show r (Some s)) in
    let now = later_after later (part c.args.show r (Some s)) in
    let name : List ℕ = field_text now (stop_name s) (91 ∷ []) in
    let t : There c.args.show rows r s (n + 1) m = some_there c.args.show rows r s (n + 1) m c.in-Child.ensures in
    record {
      piece = fields ++ (name ++ (opening s ++ 123 ∷ []));
      parts =
          is_going c.args.walk.now.done
          (remaining c.args.show rows fs n (stops_from c.args.walk.now.next) later) c.requires.going
          ∙ ap (λ next. remaining c.args.show rows fs n (stops_from next) later) c.in-Some-next.is
          ∙ go_in c.args.show rows fs f m later r t.row (sym c.in-Some.ensures.row) t.at t.first
          ∙ ap (λ (xs : List OpenElement).
          (fields ++ (name ++ (opening s ++ 123 ∷ []))) ++ remaining c.args.show rows xs m all_stops false)
          (sym c.push.ensures.items)
          ∙ not_done c.args.walk.now.done (fields ++ (name ++ (opening s ++ 123 ∷ [])))
          (remaining c.args.show rows c.push.new.self.items m all_stops false) c.requires.going;
      adds =
          adds_both c.args.so_far c.put_part-pen.result.state c.put_open.result
          (g.O.TextEnd.told c.args.out.now) (g.O.TextEnd.told c.put_part-pen.new.out)
          (g.O.TextEnd.told c.put_open.new.out) fields (name ++ (opening s ++ 123 ∷ []))
          c.put_part-pen.ensures.text
          (adds_both c.put_part-pen.result.state c.put_name-named.result c.put_open.result
          (g.O.TextEnd.told c.put_part-pen.new.out) (g.O.TextEnd.told c.put_name-named.new.out)
          (g.O.TextEnd.told c.put_open.new.out) name (opening s ++ 123 ∷ [])
          (subst (λ b.
          Adds c.put_part-pen.result.state c.put_name-named.result (g.O.TextEnd.told c.put_part-pen.new.out)
          (g.O.TextEnd.told c.put_name-named.new.out) (field_text b (stop_name s) (91 ∷ [])))
          c.put_part-pen.ensures.later c.put_name-named.ensures)
          c.put_open.ensures);
      kept = λ e. record {
        nested =
            subst (λ (xs : List OpenElement). IsNested rows 0 xs m) (sym c.push.ensures.items)
            (nested_push rows 0 fs f m r t.row c.requires.walk.nested (sym c.in-Some.ensures.row) t.at t.deep
            (omega (arith, t.below.order))
            (below_more rows r.level (n + 1) m t.row t.below t.at (omega (arith, t.deep))));
        passed = λ begun x at. fresh rows x.level _ _ begun;
      };
    }

pub returns-in-Child-clause-less : goal.returns-in-Child-clause-less
unfolding returns-in-Child-clause-poured part
returns-in-Child-clause-less g c going =
    let p = returns-in-Child-clause-poured g c in
    let r : Line = line_of c.in-Some.row in
    let s : Stop = c.in-Some-next.stop in
    less_by (walk_left c.args.show (g.R.Rows.lines c.args.rows.now) c.args.walk.now) p.piece
    (walk_left c.args.show (g.R.Rows.lines c.args.rows.now) (record {
      «open» = c.push.new.self;
      rank = c.in-Child.child;
      next = Some stop.Annotations;
      later = false;
      after = c.args.walk.now.after;
      done = c.args.walk.now.done;
    }))
    (Some stop.Annotations) c.args.walk.now.next p.parts
    (some_open (fields_text c.args.walk.now.later (part c.args.show r (Some s)))
    (field_text (later_after c.args.walk.now.later (part c.args.show r (Some s))) (stop_name s) (91 ∷ []))
    (opening s) 123)

pub returns-in-End-clause-poured : goal.returns-in-End-clause-poured
returns-in-End-clause-poured g c =
    let rows : List Line = g.R.Rows.lines c.args.rows.now in
    let fs : List OpenElement = c.args.walk.now.open.items in
    let r : Line = line_of c.in-Some.row in
    let n : ℕ = c.args.walk.now.rank in
    let later = c.args.walk.now.later in
    let s : Stop = c.in-Some-next.stop in
    let t : NoneThere c.args.show rows r s (n + 1) c.in-End.end =
    none_there c.args.show rows r s (n + 1) c.in-End.end c.in-End.ensures in
    let fields : List ℕ = fields_text later (part c.args.show r (Some s)) in record {
      piece = fields;
      parts =
          is_going c.args.walk.now.done
          (remaining c.args.show rows fs n (stops_from c.args.walk.now.next) later) c.requires.going
          ∙ ap (λ next. remaining c.args.show rows fs n (stops_from next) later) c.in-Some-next.is
          ∙ go_on c.args.show rows fs n s (stops_behind s) later r (sym c.in-Some.ensures.row) t.none
          ∙ ap₂ (λ ss b. fields ++ remaining c.args.show rows fs n ss b) (sym c.next-walk.ensures)
          (sym c.put_part-pen.ensures.later)
          ∙ not_done c.args.walk.now.done fields
          (remaining c.args.show rows fs n (stops_from c.next-walk.result) c.put_part-pen.result.later)
          c.requires.going;
      adds = c.put_part-pen.ensures.text;
      kept = λ e. record {
        nested = c.requires.walk.nested;
        passed = λ begun x at.
            subst (λ (y : Line). AreBelow rows y.level (n + 1) c.in-End.end)
            (same_Some r x (c.in-Some.ensures.row ∙ at)) t.below;
      };
    }

pub returns-in-End-clause-less : goal.returns-in-End-clause-less
returns-in-End-clause-less g c going =
    let p = returns-in-End-clause-poured g c in
    less_part (walk_left c.args.show (g.R.Rows.lines c.args.rows.now) c.args.walk.now) p.piece
    (walk_left c.args.show (g.R.Rows.lines c.args.rows.now) (record {
      «open» = c.args.walk.now.open;
      rank = c.args.walk.now.rank;
      next = c.next-walk.result;
      later = c.put_part-pen.result.later;
      after = c.in-End.end;
      done = c.args.walk.now.done;
    }))
    (stops_left c.next-walk.result) (stops_left c.args.walk.now.next) p.parts
    (one_less c.args.walk.now.next c.next-walk.result c.in-Some-next.stop c.in-Some-next.is c.next-walk.ensures)
