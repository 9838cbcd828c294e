use Rattle.std.proofs.Common.{◌≡◌, ◌<◌, ◌≤◌, ◌-◌, ℕ, List, ◌++◌, drop, length, take, refl, sym, ap, ◌∙◌, subst, arith}
use Rattle.std.specs.List.{replace_range}
use Rattle.std.specs.List.Sorted.{IsPermutation, IsSorted}
use Rattle.std.proofs.lemmas.List.Sorted.{length_permutation}
use Rattle.aas_sheet_index.specs.Index.{order, IsIndex}
use Rattle.aas_sheet_index.specs.Measuring.{Begins}
use Rattle.aas_sheet_index.specs.Moving.{renumbered}
use Rattle.aas_sheet_index.specs.Sides.{measured, HaveLevels}
use Rattle.aas_sheet_index.specs.declared.side.Side.{Side}
use Rattle.aas_sheet_index.proofs.Settled.{all_spliced, ends, fits, measured_in, meeting, merged, renewed, stand}
use Rattle.aas_sheet_index.proofs.Settled.{Meeting, Renewed}
use Rattle.aas_sheet_index.proofs.Spliced.{parts, take_seam}
use Rattle.aas_sheet_index.proofs.sides.settle.Goals as goal
use Rattle.aas_sheet_index.proofs.sides.settle.Goals.{After-len}

-- the sides as they are then
abbrev next : After-len → List Side
next c = replace_range (take c.args.count c.args.sides.now) c.args.first c.args.end (drop c.args.count c.args.sides.now)

-- the ranks as they are renumbered, and where the two parts of them meet
here : (c : After-len) → Renewed (next c) c.renumber.new.ranks.items c.args.added
here c =
    let a = c.args in
    let ss : List Side = a.sides.now in
    let p = parts ss a.first a.end a.count c.requires.ordered c.requires.before c.requires.within in
    renewed ss a.first a.end a.count p a.ranks.now.items c.renumber.new.ranks.items a.added c.requires.waiting
    (c.renumber.ensures
    ∙ ap (λ (xs : List Side). renumbered a.first a.end a.count (length xs) a.ranks.now.items) c.as_slice-2.ensures)

met : (c : After-len) → Meeting (next c) c.renumber.new.ranks.items (c.len.result - c.args.added)
met c =
    meeting (next c) c.renumber.new.ranks.items c.args.added (c.len.result - c.args.added)
    (here c) (ap (λ (n : ℕ). n - c.args.added) (c.len.ensures ∙ c.renumber.new.ranks.ok.0))

part_sorted : (part : List ℕ → List ℕ) (ss ss' : List Side) (ranks ranks' : List ℕ)
    → ss' ≡ ss → ranks' ≡ ranks → IsSorted (order ss) (part ranks) → IsSorted (order ss') (part ranks')
part_sorted part ss ss' ranks ranks' sides_are ranks_are sorted =
    subst (λ (ss : List Side). IsSorted (order ss) (part ranks')) (sym sides_are)
    (subst (λ (xs : List ℕ). IsSorted (order ss) (part xs)) (sym ranks_are) sorted)

pub overflow_sub-kept : goal.overflow_sub-kept
overflow_sub-kept c =
    let inside : c.args.added ≤ length c.renumber.new.ranks.items =
    fits (next (goal.at.overflow_sub-kept c).After-len) c.renumber.new.ranks.items c.args.added
    (here (goal.at.overflow_sub-kept c).After-len) in
    let long : c.len.result ≡ length c.renumber.new.ranks.items = c.len.ensures ∙ c.renumber.new.ranks.ok.0 in
    omega arith

pub merge-requires : goal.merge-requires
merge-requires c =
    let m = met (goal.at.merge-requires c).After-len in
    let sides_are = c.as_slice-3.ensures ∙ c.splice.ensures in
    let ranks_are = c.as_mut_slice.ensures.value in
    let long = ap length ranks_are in
    let inside = m.inside in
    record {
      inside = omega arith;
      front = part_sorted (take (c.len.result - c.args.added)) _ _ _ _ sides_are ranks_are m.front;
      back = part_sorted (drop (c.len.result - c.args.added)) _ _ _ _ sides_are ranks_are m.back;
    }

pub measure_edited-requires-clause-levels : goal.measure_edited-requires-clause-levels
measure_edited-requires-clause-levels c =
    let a = c.args in
    subst HaveLevels (sym (c.as_mut_slice-2.ensures.value ∙ c.splice.ensures))
    (all_spliced (λ (s : Side). 0 < s.level) a.sides.now a.first a.end a.count c.requires.levels)

pub measure_edited-requires-clause-back : goal.measure_edited-requires-clause-back
measure_edited-requires-clause-back c =
    let a = c.args in
    let p = parts a.sides.now a.first a.end a.count c.requires.ordered c.requires.before c.requires.within in
    ends a.sides.now a.first a.end a.count p c.as_mut_slice-2.result.now c.len-total.result
    (c.as_mut_slice-2.ensures.value ∙ c.splice.ensures) c.len-total.ensures c.requires.sized

pub measure_edited-requires-clause-others : goal.measure_edited-requires-clause-others
measure_edited-requires-clause-others c =
    let a = c.args in
    let p = parts a.sides.now a.first a.end a.count c.requires.ordered c.requires.before c.requires.within in
    stand a.sides.now a.first a.end a.count p c.as_mut_slice-2.result.now c.len-total.result c.level_at-level.result
    (c.as_mut_slice-2.ensures.value ∙ c.splice.ensures) c.len-total.ensures c.requires.sized
    (subst (λ (ss : List Side). Begins c.level_at-level.result (drop a.first ss))
    c.as_slice.ensures c.level_at-level.ensures)

pub returns-clause-index : goal.returns-clause-index
returns-clause-index c =
    let a = c.args in
    let ss : List Side = a.sides.now in
    let next : List Side = replace_range (take a.count ss) a.first a.end (drop a.count ss) in
    let new : List ℕ = c.renumber.new.ranks.items in
    let last : List ℕ = c.merge.new.ranks in
    let r = here (goal.at.returns-clause-index c).After-len in
    let sorted : IsSorted (order next) last = subst (λ (ss : List Side). IsSorted (order ss) last)
    (c.as_slice-3.ensures ∙ c.splice.ensures) c.merge.ensures.sorted in
    let same : IsPermutation new last =
    subst (λ (xs : List ℕ). IsPermutation xs last) c.as_mut_slice.ensures.value c.merge.ensures.same in
    let index : IsIndex (measured next) last = merged next new last a.added r c.requires.short sorted same in
    let long : length last ≡ c.renumber.new.ranks.len =
    length_permutation new last same ∙ sym c.renumber.new.ranks.ok.0 in
    let ranks_are =
    take_seam (last ++ drop (length last) new) last (drop (length last) new) c.renumber.new.ranks.len refl long in
    let sides_are = measured_in c.splice.new.items c.as_mut_slice-2.result.now
    c.measure_edited.new.sides c.as_mut_slice-2.ensures.value c.measure_edited.ensures
    ∙ ap measured c.splice.ensures in
    subst (λ (ss : List Side). IsIndex ss (take c.renumber.new.ranks.len (last ++ drop (length last) new)))
    (sym sides_are) (subst (IsIndex (measured next)) (sym ranks_are) index)
