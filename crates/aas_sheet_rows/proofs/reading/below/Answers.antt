use Rattle.std.proofs.Common.{◌≡◌, ℕ, ◌+◌, ◌-◌, List, [], Some, false, get_or, length, option_map, slice_get, sym, ap}
use Rattle.std.proofs.Common.{◌∙◌, subst}
use Rattle.aas_model.specs.declared.element.Element.{Element}
use Rattle.aas_model.specs.declared.path.PathStep.{PathStep}
use Rattle.aas_rows.specs.Edits.{rank_among}
use Rattle.aas_sheet_index.specs.Sides.{sizes_of}
use Rattle.aas_sheet_index.specs.declared.side.Side.{Side}
use Rattle.aas_sheet_rows.specs.Found.{all_rows, Among}
use Rattle.aas_sheet_rows.specs.declared.finding.RowRange.{RowRange}
use Rattle.aas_sheet_rows.specs.declared.row.Row.{Row}
use Rattle.aas_store.proofs.Paths.{no_steps}
use Rattle.aas_sheet_rows.proofs.Below.{found_below, nothing_below}
use Rattle.aas_path_trees.specs.ElementAt.{children_at}
use Rattle.aas_sheet_rows.proofs.reading.below.Goals as goal

-- children of the submodel in a span of all rows
among_all : (rs : List Row) (ss : List Side) (b : RowRange) (ks : List Element)
    → b ≡ all_rows ss → Among rs ss 0 (length ss) 0 ks → Among rs ss b.first b.end b.level ks
among_all rs ss b ks is a = subst (λ (b : RowRange). Among rs ss b.first b.end b.level ks) (sym is) a

-- where a path leads from there
from_all : (ss : List Side) (b : RowRange) (s : PathStep) (p : List PathStep) (ks : List Element) → b ≡ all_rows ss
    → option_map (λ r. b.first + r) (rank_among false s p ks) ≡ option_map (λ r. 0 + r) (rank_among false s p ks)
from_all ss b s p ks is = ap (λ (b : RowRange). option_map (λ r. b.first + r) (rank_among false s p ks)) is

pub returns-in_default-clause-rows : goal.returns-in_default-clause-rows
returns-in_default-clause-rows c = λ d a.
    let rs : List Row = c.args.rows.now in
    let ss : List Side = c.args.sides.now in
    let b : RowRange = c.all_rows.result in
    let none : c.args.path.now.steps ≡ [] =
    sym c.as_slice.ensures ∙ no_steps c.as_slice.result.now c.in_default.ensures.cases in
    subst (λ (p : List PathStep). Among rs ss b.first b.end b.level (children_at d p))
    (sym none) (among_all rs ss b d.kids c.all_rows.ensures a)

pub returns-in-Err-clause-rows : goal.returns-in-Err-clause-rows
returns-in-Err-clause-rows c = λ d a.
    let rs : List Row = c.args.rows.now in
    let ss : List Side = c.args.sides.now in
    let all = among_all rs ss c.all_rows-span.result d.kids c.all_rows-span.ensures a in
    nothing_below d c.args.path.now.steps c.in-Some.rest.now c.in-Some.step.now
    (sym c.as_slice.ensures ∙ c.in-Some.ensures.cases.0)
    (c.in-Err.ensures.value d.kids all
    ∙ from_all ss c.all_rows-span.result c.in-Some.step.now c.in-Some.rest.now d.kids c.all_rows-span.ensures)

pub returns-in-Ok-clause-rows : goal.returns-in-Ok-clause-rows
returns-in-Ok-clause-rows c = λ d a.
    let rs : List Row = c.args.rows.now in
    let ss : List Side = c.args.sides.now in
    let rank : ℕ = c.in-Ok.rank in
    let end : ℕ = c.rank_behind.result in
    let same : c.as_slice-all.result.now ≡ ss = c.as_slice-all.ensures in
    let side : Side = get_or c.as_slice-all.result.now rank c.index-all-rank.result in
    let all = among_all rs ss c.all_rows-span.result d.kids c.all_rows-span.ensures a in
    let size : slice_get (sizes_of ss) rank ≡ Some (end - rank) =
    sym (ap (λ (ss : List Side). slice_get (sizes_of ss) rank) same) ∙ c.rank_behind.ensures.value in
    let here : side ≡ get_or ss rank side = ap (get_or c.as_slice-all.result.now rank) c.index-all-rank.is
    ∙ ap (λ (ss : List Side). get_or ss rank side) same in
    found_below rs ss d c.args.path.now.steps c.in-Some.rest.now c.in-Some.step.now rank end side c.requires a
    (sym c.as_slice.ensures ∙ c.in-Some.ensures.cases.0)
    (c.in-Ok.ensures.value d.kids all
    ∙ from_all ss c.all_rows-span.result c.in-Some.step.now c.in-Some.rest.now d.kids c.all_rows-span.ensures)
    c.in-Ok.ensures.inside
    here size c.rank_behind.ensures.above
