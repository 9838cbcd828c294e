use Rattle.std.proofs.Common.{◌-◌, arith}
use Rattle.std.proofs.lemmas.List.Sorted.{IsPermutation-trans}
use Rattle.aas_sheet_index.proofs.Merged.{all_before, all_behind, halves, joined, Halves}
use Rattle.aas_sheet_index.proofs.merging.+merge.Goals as goal
use Rattle.aas_sheet_index.proofs.merging.+merge.Goals.{After-split_at_mut-front}
use Rattle.aas_sheet_index.proofs.merging.+merge.Goals.{then-kept-eq0-via-then-kept-eq0}
use Rattle.aas_sheet_index.proofs.merging.+merge.Goals.{then-kept-eq0-via-else-kept-eq0+then-kept-ranks}

pub returns-then-kept-eq0-clause-sorted : goal.returns-then-kept-eq0-clause-sorted
returns-then-kept-eq0-clause-sorted t c =
    elim c.then-kept-eq0.branch [
      | then-kept-eq0-via-then-kept-eq0 w ↦
          all_behind c.args.sides.now c.args.ranks.now c.args.kept w.if-kept-eq0.true c.requires.back
      | then-kept-eq0-via-else-kept-eq0+then-kept-ranks w ↦
          all_before c.args.sides.now c.args.ranks.now c.args.kept w.if-kept-ranks.true c.requires.front
    ]

-- the two sides of the one that stands in its place
here : (t : _) (c : After-split_at_mut-front t)
    → Halves c.args.sides.now c.divide-place.new.ranks c.split_at_mut-front.result.0.now
    c.split_at_mut-front.result.1.now c.divide-place.result.0 c.divide-place.result.1
    (c.args.kept - c.divide-place.result.0) c.divide-place.ensures.divided.middle
here t c =
    halves c.args.sides.now c.divide-place.new.ranks c.split_at_mut-front.result.0.now
    c.split_at_mut-front.result.1.now c.divide-place.result.0 c.divide-place.result.1
    (c.args.kept - c.divide-place.result.0) c.divide-place.ensures.divided
    c.split_at_mut-front.ensures.front c.split_at_mut-front.ensures.back

pub merge-requires : goal.merge-requires
merge-requires t c =
    let h = here t (goal.at.merge-requires t c).After-split_at_mut-front in
    let long = c.divide-place.auto.ranks in
    let shorter = h.shorter in
    let measured = c.decreases in
    (omega arith, (h.low, (h.one, h.two)))

pub merge-requires-2 : goal.merge-requires-2
merge-requires-2 t c =
    let h = here t (goal.at.merge-requires-2 t c).After-split_at_mut-front in
    let long = c.divide-place.auto.ranks in
    let short = h.short in
    let measured = c.decreases in
    (omega arith, (h.high, (h.three, h.four)))

pub returns : goal.returns
returns t c =
    let s = c.split_at_mut-front in
    let h = here t (goal.at.returns t c).After-split_at_mut-front in
    let whole = joined c.args.sides.now c.divide-place.new.ranks s.result.0.now s.result.1.now c.merge.new.ranks
    c.merge-2.new.ranks c.divide-place.result.0 c.divide-place.result.1 (c.args.kept - c.divide-place.result.0)
    c.divide-place.ensures.divided.middle h c.merge.ensures.sorted c.merge.ensures.same c.merge-2.ensures.sorted
    c.merge-2.ensures.same in
    record { sorted = whole.0; same = IsPermutation-trans _ _ _ c.divide-place.ensures.same whole.1 }
