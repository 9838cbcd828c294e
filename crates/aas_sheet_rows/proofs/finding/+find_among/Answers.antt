use Rattle.std.proofs.Common.{◌≡◌, ℕ, ◌+◌, ◌-◌, ◌<◌, ◌∙◌, ap, sym, List, None, Some, get_or, length, slice_get, take, drop}
use Rattle.std.proofs.Common.{option_map, rules}
use Rattle.aas_model.specs.declared.element.Element.{Element}
use Rattle.aas_path_trees.specs.Children.{is_list_payload}
use Rattle.aas_path_trees.specs.ElementAt.{depth_among}
use Rattle.aas_rows.specs.Edits.{rank_among}
use Rattle.aas_sheet_rows.specs.Found.{side_of_step, Among}
use Rattle.aas_sheet_rows.specs.declared.row.Row.{Row}
use Rattle.aas_sheet_index.specs.Sides.{sizes_of}
use Rattle.aas_sheet_index.specs.declared.side.Side.{Side}
use Rattle.aas_sheet_rows.proofs.Found.{leads_on, path_ends, path_lost, stepped, LeadsOn}
use Rattle.aas_sheet_rows.proofs.finding.+find_among.Goals as goal
use Rattle.aas_sheet_rows.proofs.finding.+find_among.Goals.{After-index-all-rank, In_default}

-- where the step leads to no row, the path leads nowhere
lost : (t : _) (c : In_default t) (ks : List Element)
    → Among c.args.rows.now c.args.sides.now c.args.span.first c.args.span.end c.args.span.level ks
    → (None ≡ option_map (λ r. c.args.span.first + r) (rank_among c.args.in_list c.args.step.now c.args.path.now ks))
    × (0 ≡ depth_among c.args.in_list c.args.step.now c.args.path.now ks)
lost t c ks a =
    let ss : List Side = c.args.sides.now in
    path_lost c.args.rows.now ss c.args.span.first c.args.span.end c.args.span.level
    ks c.args.in_list c.args.step.now c.args.path.now c.requires.table a
    (c.in_default.ensures.value
    ∙ ap (λ s. option_map (λ i. c.args.span.first + i) (side_of_step c.args.in_list s c.args.span.level
    (take (c.args.span.end - c.args.span.first) (drop c.args.span.first ss))))
    c.step_ref.ensures)

pub returns-in_default-clause-value : goal.returns-in_default-clause-value
returns-in_default-clause-value t c = λ ks a. (lost t (goal.at.returns-in_default-clause-value t c).In_default ks a).0

pub returns-in_default-clause-depth : goal.returns-in_default-clause-depth
returns-in_default-clause-depth t c = λ ks a. (lost t (goal.at.returns-in_default-clause-depth t c).In_default ks a).1

pub returns-in-None-clause-value : goal.returns-in-None-clause-value
returns-in-None-clause-value t c = λ ks a.
    let ss : List Side = c.args.sides.now in
    (path_ends c.args.rows.now ss c.args.span.first c.args.span.level c.in-Some.rank
    ks c.args.in_list c.args.step.now c.args.path.now c.in-None.ensures.cases
    (stepped c.args.rows.now ss c.args.span.first c.args.span.end c.args.span.level
    c.in-Some.rank ks c.args.in_list c.args.step.now c.requires.table a
    (c.in-Some.ensures.value
    ∙ ap (λ s. option_map (λ i. c.args.span.first + i) (side_of_step c.args.in_list s c.args.span.level
    (take (c.args.span.end - c.args.span.first) (drop c.args.span.first ss))))
    c.step_ref.ensures))).0

-- from the child of the rank the path leads on as from its row
on : (t : _) (c : After-index-all-rank t) (ks : List Element)
    → Among c.args.rows.now c.args.sides.now c.args.span.first c.args.span.end c.args.span.level ks
    → LeadsOn c.args.rows.now c.args.sides.now c.args.span.first c.in-Some.rank c.rank_behind.result
    (get_or c.as_slice-all.result.now c.in-Some.rank c.index-all-rank.result).level
    ks c.args.in_list c.is_list-in_list.result
    c.args.step.now c.in-Some-split_first.next.now c.args.path.now c.in-Some-split_first.rest.now
on t c ks a =
    let rank : ℕ = c.in-Some.rank in
    let rs : List Row = c.args.rows.now in
    let ss : List Side = c.args.sides.now in
    let row : Row = get_or rs rank c.index-rows-rank.result in
    let all : List Side = c.as_slice-all.result.now in
    let same : all ≡ ss = c.as_slice-all.ensures in
    let side : Side = get_or all rank c.index-all-rank.result in
    let inside : rank < length ss = search rules in
    let size : slice_get (sizes_of ss) rank ≡ Some (c.rank_behind.result - rank) =
    sym (ap (λ (ss : List Side). slice_get (sizes_of ss) rank) same) ∙ c.rank_behind.ensures.value in
    leads_on rs ss c.args.span.first c.args.span.end c.args.span.level
    rank c.rank_behind.result ks c.args.in_list c.is_list-in_list.result c.args.step.now
    c.in-Some-split_first.next.now c.args.path.now c.in-Some-split_first.rest.now row side
    c.requires.table a
    (c.in-Some.ensures.value
    ∙ ap (λ s. option_map (λ i. c.args.span.first + i) (side_of_step c.args.in_list s c.args.span.level
    (take (c.args.span.end - c.args.span.first) (drop c.args.span.first ss))))
    c.step_ref.ensures)
    c.in-Some-split_first.ensures.cases.0 inside (ap (get_or rs rank) c.index-rows-rank.is)
    (ap (get_or all rank) c.index-all-rank.is ∙ ap (λ (ss : List Side). get_or ss rank side) same) size
    c.rank_behind.ensures.above
    (c.is_list-in_list.ensures ∙ ap (λ (r : Row). is_list_payload r.payload) (c.get.ensures ∙ c.index-rows-rank.is))

pub returns-in-Ok-clause-value : goal.returns-in-Ok-clause-value
returns-in-Ok-clause-value t c = λ ks a.
    let o = on t (goal.at.returns-in-Ok-clause-value t c).After-index-all-rank ks a in
    c.in-Ok.ensures.value o.kids o.among ∙ o.ranked

pub returns-in-Err-clause-value : goal.returns-in-Err-clause-value
returns-in-Err-clause-value t c = λ ks a.
    let o = on t (goal.at.returns-in-Err-clause-value t c).After-index-all-rank ks a in
    c.in-Err.ensures.value o.kids o.among ∙ o.ranked

pub returns-in-Err-clause-depth : goal.returns-in-Err-clause-depth
returns-in-Err-clause-depth t c = λ ks a.
    let o = on t (goal.at.returns-in-Err-clause-depth t c).After-index-all-rank ks a in
    ap (λ n. n + 1) (c.in-Err.ensures.depth o.kids o.among) ∙ o.deep
