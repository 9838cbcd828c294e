use Rattle.std.proofs.Common.{◌≡◌, ◌+◌, ◌-◌, ℕ, List, drop, sym, ap, ◌∙◌, subst, arith}
use Rattle.aas_sheet_index.specs.Sides.{measured}
use Rattle.aas_sheet_index.specs.declared.side.Side.{Side}
use Rattle.aas_sheet_index.proofs.Measures.{known_behind, measuring_begun, measuring_done, measuring_on, Measuring}
use Rattle.aas_sheet_index.proofs.measuring.measure.Goals as goal

pub loop-place-init : goal.loop-place-init
loop-place-init c = record {
  ordered = c.requires.ordered;
  sizes = measuring_begun c.args.sides.now c.args.known c.requires.within c.requires.back;
}

pub size_at-size-requires-clause-known : goal.size_at-size-requires-clause-known
size_at-size-requires-clause-known c =
    let l = c.loop-place in
    let start : List Side = c.args.sides.now in
    let back : l.place - 1 + 1 ≡ l.place = omega (arith, c.loop-place-test.true) in
    known_behind l.sides start (l.place - 1 + 1)
    (ap (λ n. drop n l.sides) back ∙ l.invariant.sizes.behind ∙ ap (λ n. measured (drop n start)) (sym back))

pub loop-place-preserved : goal.loop-place-preserved
loop-place-preserved c =
    let l = c.loop-place in record {
      ordered = omega (arith, c.loop-place-test.true);
      sizes =
          measuring_on c.args.sides.now l.sides l.place (l.place - 1) c.size_at-size.result c.index-sides-place.result
          (omega (arith, c.loop-place-test.true)) l.invariant.sizes c.size_at-size.ensures;
    }

pub returns : goal.returns
returns c =
    let l = c.loop-place in
    let at : l.place ≡ c.args.first = omega (arith, c.loop-place-test.false, l.invariant.ordered) in
    measuring_done c.args.sides.now l.sides c.args.first
    (subst (λ (n : ℕ). Measuring c.args.sides.now l.sides n) at l.invariant.sizes)
