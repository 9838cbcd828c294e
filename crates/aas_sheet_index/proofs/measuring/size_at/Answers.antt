use Rattle.std.proofs.Common.{◌≡◌, ◌<◌, ℕ, ◌+◌, ◌-◌, List, get_or, drop, ap, subst, arith, rules}
use Rattle.std.proofs.lemmas.List.{get_or_default}
use Rattle.aas_rows.specs.Rows.{count_deeper}
use Rattle.aas_sheet_index.specs.Sides.{levels}
use Rattle.aas_sheet_index.specs.declared.side.Side.{Side}
use Rattle.aas_sheet_index.proofs.Measures.{count_on, counted_at_end, counted_before, size_is, Counted}
use Rattle.aas_sheet_index.proofs.measuring.size_at.Goals as goal
use Rattle.aas_sheet_index.proofs.measuring.size_at.Goals.{then-loop-end-test+else-sides-end, else-loop-end-test}
use Rattle.aas_sheet_index.proofs.measuring.size_at.Goals.{After-index-sides-end-in-loop-end}

-- the row of the place
abbrev own : After-index-sides-end-in-loop-end → Side
own c = get_or c.args.sides.now c.args.place c.index-sides-place.result

-- the row at the end
abbrev next : After-index-sides-end-in-loop-end → Side
next c = get_or c.args.sides.now c.loop-end.end c.index-sides-end-in-loop-end.result

-- it stands deeper, and so all of it is counted
here : (c : After-index-sides-end-in-loop-end)
    → Counted c.args.sides.now (own c).level (c.args.place + 1) (c.loop-end.end + (next c).size)
    × (0 < (next c).size)
here c =
    let ss : List Side = c.args.sides.now in
    let deep : (own c).level < (next c).level = subst (λ (x : Side). (own c).level < x.level)
    (get_or_default ss c.loop-end.end c.index-sides-end.result
    c.index-sides-end-in-loop-end.result c.loop-end-test.true)
    c.if-sides-end.true in
    count_on ss (own c).level (c.args.place + 1) c.loop-end.end (next c) c.requires.known c.loop-end.invariant
    c.loop-end-test.true (ap (get_or ss c.loop-end.end) c.index-sides-end-in-loop-end.is) deep

pub overflow_add-end-in-loop-end : goal.overflow_add-end-in-loop-end
overflow_add-end-in-loop-end c =
    let inside = (here (goal.at.overflow_add-end-in-loop-end c).After-index-sides-end-in-loop-end).0.inside in
    search rules

pub loop-end-smaller : goal.loop-end-smaller
loop-end-smaller c =
    let on = here (goal.at.loop-end-smaller c).After-index-sides-end-in-loop-end in
    omega (arith, on.0.inside, on.1)

pub loop-end-preserved : goal.loop-end-preserved
loop-end-preserved c = (here (goal.at.loop-end-preserved c).After-index-sides-end-in-loop-end).0

pub returns : goal.returns
returns c =
    let ss : List Side = c.args.sides.now in
    let own : Side = get_or ss c.args.place c.index-sides-place.result in
    let first : ℕ = c.args.place + 1 in
    let end : ℕ = c.loop-end.end in
    let counted : end - first ≡ count_deeper own.level (levels (drop first ss)) =
    elim c.loop-end-test.branch [
      | then-loop-end-test+else-sides-end w ↦
          counted_before ss own.level first end (get_or ss end w.index-sides-end.result) c.loop-end.invariant
          w.loop-end-test.true (ap (get_or ss end) w.index-sides-end.is) (omega (arith, w.if-sides-end.false))
      | else-loop-end-test w ↦
          counted_at_end ss own.level first end c.loop-end.invariant (omega (arith, w.loop-end-test.false))
    ] in
    size_is ss c.args.place (end - c.args.place) own c.requires.within
    (ap (get_or ss c.args.place) c.index-sides-place.is)
    (let above = c.loop-end.invariant.above in omega (arith, counted, above))
