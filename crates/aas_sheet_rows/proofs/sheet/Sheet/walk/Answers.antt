use Rattle.std.proofs.Common.{◌≡◌, ◌+◌, ℕ, Result, Ok, Err, IfErr, false, option_map, sym, ap, ◌∙◌}
use Rattle.aas_path_trees.specs.ElementAt.{depth_among, depth_found}
use Rattle.aas_rows.specs.Edits.{rank_among}
use Rattle.aas_store.specs.Spots.{rank_at}
use Rattle.aas_store.proofs.Paths.{from_zero}
use Rattle.aas_sheet_rows.specs.declared.finding.RowRange.{RowRange}
use Rattle.aas_sheet_rows.proofs.Standing.{all_spanned}
use Rattle.aas_sheet_rows.proofs.sheet.Sheet.walk.Goals as goal

-- how far a path leads, told of an equal depth
as_far : {A : Type 0} (r : Result A ℕ) (m n : ℕ) → m ≡ n → IfErr r (λ k. k ≡ m) → IfErr r (λ k. k ≡ n)
as_far (Ok a) m n same far = tt
as_far (Err k) m n same far = far ∙ same

pub returns-clause-value : goal.returns-clause-value
returns-clause-value c =
    let t = c.self.inside in
    let d = c.args.self.now in
    c.find_among.ensures.value d.kids
    (all_spanned t.head t.rows c.as_slice-rows.result.now t.sides d c.all_rows-span.result
    c.self.invariant.0 c.self.view_is c.as_slice-rows.ensures c.all_rows-span.ensures)
    ∙ ap (λ (b : RowRange).
    option_map (λ r. b.first + r) (rank_among false c.in-Some.step.now c.in-Some.rest.now d.kids))
    c.all_rows-span.ensures
    ∙ from_zero (rank_among false c.in-Some.step.now c.in-Some.rest.now d.kids)
    ∙ ap (rank_at d) (sym c.in-Some.ensures.cases.0 ∙ c.as_slice.ensures)

pub returns-clause-depth : goal.returns-clause-depth
returns-clause-depth c =
    let t = c.self.inside in
    let d = c.args.self.now in
    as_far c.find_among.result (depth_among false c.in-Some.step.now c.in-Some.rest.now d.kids)
    (depth_found d c.args.path.now.steps) (ap (depth_found d) (sym c.in-Some.ensures.cases.0 ∙ c.as_slice.ensures))
    (c.find_among.ensures.depth d.kids (all_spanned t.head t.rows c.as_slice-rows.result.now t.sides
    d c.all_rows-span.result c.self.invariant.0 c.self.view_is c.as_slice-rows.ensures c.all_rows-span.ensures))
