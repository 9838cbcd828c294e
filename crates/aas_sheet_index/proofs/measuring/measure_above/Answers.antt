use Rattle.std.proofs.Common.{◌≡◌, ◌+◌, ◌-◌, ℕ, drop, refl, subst, arith, rules}
use Rattle.aas_sheet_index.specs.Sides.{AreMeasured}
use Rattle.aas_sheet_index.proofs.Above.{above_done, begun, behind_sized, counted, front_done, new_size_fits, row_done}
use Rattle.aas_sheet_index.proofs.measuring.measure_above.Goals as goal

pub loop-rank-init : goal.loop-rank-init
loop-rank-init c = record {
  can_next = tt;
  is_finite = tt;
  left = begun c.args.sides.now c.args.first c.args.known c.args.end c.args.level c.requires.ordered c.requires.within
      c.requires.sized c.requires.others c.requires.begins;
}

pub overflow_sub-side-then-is_above : goal.overflow_sub-side-then-is_above
overflow_sub-side-then-is_above c =
    let a = c.args in
    let l = c.loop-rank in
    let rank : ℕ = c.in-Some.field-0.now in
    counted a.sides.now l.sides a.first a.known a.end l.place l.level l.invariant.left rank c.least_level-least.result
    c.index-sides-rank.result (c.if-is_above.ensures refl) c.least_level-least.ensures

pub overflow_add-side : goal.overflow_add-side
overflow_add-side c =
    let a = c.args in
    let l = c.loop-rank in
    let rank : ℕ = c.in-Some.field-0.now in
    let fits =
    new_size_fits a.sides.now l.sides a.first a.known a.end l.place
    l.level l.invariant.left rank c.least_level-least.result
    c.index-sides-rank.result (c.if-is_above.ensures refl) c.least_level-least.ensures in
    search rules

pub loop-rank-preserved-then-is_above : goal.loop-rank-preserved-then-is_above
loop-rank-preserved-then-is_above c =
    let a = c.args in
    let l = c.loop-rank in
    let rank : ℕ = c.in-Some.field-0.now in record {
      can_next = tt;
      is_finite = tt;
      left =
          above_done a.sides.now l.sides a.first a.known a.end l.place
          l.level l.invariant.left rank c.least_level-least.result
          c.index-sides-rank.result (c.if-is_above.ensures refl) c.least_level-least.ensures;
    }

pub size_at-size-requires-clause-known : goal.size_at-size-requires-clause-known
size_at-size-requires-clause-known c =
    let a = c.args in
    let l = c.loop-place in
    let back : l.place ≡ l.place - 1 + 1 = omega (arith, c.loop-place-test.true) in
    subst (λ (n : ℕ). AreMeasured (drop n l.sides)) back
    (behind_sized a.sides.now l.sides a.first a.known a.end l.place l.level l.invariant)

pub loop-place-preserved : goal.loop-place-preserved
loop-place-preserved c =
    let a = c.args in
    let l = c.loop-place in
    row_done a.sides.now l.sides a.first a.known a.end l.place l.level l.invariant (l.place - 1) c.size_at-size.result
    c.index-sides-place.result (omega (arith, c.loop-place-test.true)) c.size_at-size.ensures

pub returns-else-level-gt1 : goal.returns-else-level-gt1
returns-else-level-gt1 c =
    let a = c.args in
    let l = c.loop-place in
    front_done a.sides.now l.sides a.first a.known a.end l.place l.level l.invariant c.requires.levels
    (omega (arith, c.if-level-gt1.false))
