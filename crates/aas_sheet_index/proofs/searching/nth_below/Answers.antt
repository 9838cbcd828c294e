use Rattle.std.proofs.Common.{◌≡◌, ◌+◌, ◌-◌, ◌<◌, ◌≤◌, ℕ, suc, length, get_or, List, Some, slice_get, true, sym, ap}
use Rattle.std.proofs.Common.{ap₂, ◌∙◌, arith, rules}
use Rattle.std.proofs.lemmas.Option.{slice_get-get_or}
use Rattle.aas_sheet_index.specs.Sides.{is_below}
use Rattle.aas_sheet_index.specs.declared.side.Side.{Side}
use Rattle.aas_sheet_index.proofs.Counted.{deeper_is_not_below, found_here, nth_from, passed_all}
use Rattle.aas_sheet_index.proofs.Counted.{passed_by, size_within}
use Rattle.aas_sheet_index.proofs.searching.nth_below.Goals as goal
use Rattle.aas_sheet_index.proofs.searching.nth_below.Goals.{then-is_below+else-left-eq0, else-is_below}
use Rattle.aas_sheet_index.proofs.searching.nth_below.Goals.{After-index-sides-rank, Joined-is_below}

there : (ss : List Side) (rank : ℕ) (s : Side) → rank < length ss → s ≡ get_or ss rank s → slice_get ss rank ≡ Some s
there ss rank s inside is = slice_get-get_or ss rank s inside ∙ ap (λ (s : Side). Some s) (sym is)

pub returns-then-left-eq0-clause-value : goal.returns-then-left-eq0-clause-value
returns-then-left-eq0-clause-value c =
    let ss : List Side = c.args.sides.now in
    let l = c.loop-rank in
    let inside = c.loop-rank-test.true in
    let at : slice_get ss l.rank ≡ Some c.index-sides-rank.result =
    there ss l.rank c.index-sides-rank.result (omega (arith, inside, c.requires.within)) c.index-sides-rank.is in
    let none : l.left ≡ 0 = c.if-left-eq0.true in
    sym (l.invariant ∙ ap (nth_from (is_below c.args.level) ss c.args.end l.rank) none
    ∙ found_here (is_below c.args.level) ss c.args.end l.rank c.index-sides-rank.result inside at
    (sym c.is_below.ensures ∙ c.if-is_below.true))

-- the side counts itself, and what it counts is within the sides
fits : (c : After-index-sides-rank) → (0 < c.index-sides-rank.result.size)
    × (c.loop-rank.rank + c.index-sides-rank.result.size ≤ length c.args.sides.now)
fits c =
    let inside = c.loop-rank-test.true in
    size_within c.args.sides.now c.loop-rank.rank c.index-sides-rank.result c.requires.sized
    (there c.args.sides.now c.loop-rank.rank c.index-sides-rank.result
    (omega (arith, inside, c.requires.within)) c.index-sides-rank.is)

pub overflow_add-rank : goal.overflow_add-rank
overflow_add-rank c =
    let sum = (fits (goal.at.overflow_add-rank c).After-index-sides-rank).1 in
    let small : c.loop-rank.rank + c.index-sides-rank.result.size ≤ 18446744073709551615 =
    omega (arith, sum, c.requires.few) in
    search rules

pub loop-left-init : goal.loop-left-init
loop-left-init c =
    let ss : List Side = c.args.sides.now in
    let l = c.loop-rank in
    let s : Side = c.index-sides-rank.result in
    let inside = c.loop-rank-test.true in
    let at = there ss l.rank s (omega (arith, inside, c.requires.within)) c.index-sides-rank.is in
    let p = is_below c.args.level in
    elim c.if-is_below.branch [
      | then-is_below+else-left-eq0 w ↦
          let holds = sym c.is_below.ensures ∙ w.if-is_below.true in
          let some : l.left ≡ suc (l.left - 1) = omega (arith, w.if-left-eq0.false) in record {
            same = l.invariant ∙ ap (nth_from p ss c.args.end l.rank) some
                ∙ passed_all p ss c.args.end l.rank s inside at (l.left - 1) holds
                (deeper_is_not_below c.args.level s holds) c.requires.sized
                ∙ sym (ap₂ (nth_from p ss c.args.end) w.rank-is w.left-is);
            on = omega arith;
          }
      | else-is_below w ↦ record {
        same = l.invariant
            ∙ passed_by p ss c.args.end l.rank s inside at l.left (sym c.is_below.ensures ∙ w.if-is_below.false)
            ∙ sym (ap₂ (nth_from p ss c.args.end) w.rank-is w.left-is);
        on = omega arith;
      }
    ]

-- behind a side that counts itself the rank is further on
further : (c : Joined-is_below) → 0 < c.index-sides-rank.result.size → c.loop-rank.rank < c.if-is_below.rank
further c some =
    elim c.if-is_below.branch [
      | then-is_below+else-left-eq0 w ↦ let is = w.rank-is in omega (arith, is, some)
      | else-is_below w ↦ let is = w.rank-is in omega (arith, is)
    ]

pub loop-rank-smaller-else-is_leaf_below : goal.loop-rank-smaller-else-is_leaf_below
loop-rank-smaller-else-is_leaf_below c =
    let at = goal.at.loop-rank-smaller-else-is_leaf_below c in
    let more = further at.Joined-is_below (fits at.After-index-sides-rank).0 in
    omega (arith, c.loop-rank-test.true, c.loop-left.invariant.on, more)

pub loop-rank-smaller : goal.loop-rank-smaller
loop-rank-smaller c =
    let at = goal.at.loop-rank-smaller c in
    let more = further at.Joined-is_below (fits at.After-index-sides-rank).0 in
    omega (arith, c.loop-rank-test.true, c.loop-left.invariant.on, more)

pub loop-left-preserved : goal.loop-left-preserved
loop-left-preserved c =
    let ss : List Side = c.args.sides.now in
    let l = c.loop-left in
    let s : Side = c.index-sides-rank-then-rank-end.result in
    let inside = c.if-rank-end.true in
    let at = there ss l.rank s (omega (arith, inside, c.requires.within)) c.index-sides-rank-then-rank-end.is in
    let p = is_below c.args.level in
    let leaf : (p s ≡ true) × (s.size ≡ 1) = c.if-is_leaf_below.ensures in
    let some : l.left ≡ suc (l.left - 1) = omega (arith, c.loop-left-test.true) in
    let on = l.invariant.on in record {
      same = l.invariant.same ∙ ap (nth_from p ss c.args.end l.rank) some
          ∙ passed_all p ss c.args.end l.rank s inside at (l.left - 1) leaf.0
          (deeper_is_not_below c.args.level s leaf.0) c.requires.sized
          ∙ ap (λ n. nth_from p ss c.args.end (l.rank + n) (l.left - 1)) leaf.1;
      on = omega (arith, on);
    }
