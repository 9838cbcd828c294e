use Rattle.std.proofs.Common.{◌≡◌, List, [], ◌∷◌, Some, slice_get, sym, ap, ◌∙◌, length, arith}
use Rattle.aas_model.specs.declared.element.Element.{Element}
use Rattle.aas_rows.specs.Rows.{deeper, element_of, forest}
use Rattle.aas_store.specs.Spots.{elements_of_all}
use Rattle.aas_sheet_rows.specs.Growing.{rows_between}
use Rattle.aas_sheet_rows.specs.Table.{line_of}
use Rattle.aas_sheet_rows.specs.declared.row.Row.{Row}
use Rattle.aas_sheet_index.specs.declared.side.Side.{Side}
use Rattle.aas_sheet_rows.proofs.Grove.{grown_alone}
use Rattle.aas_sheet_rows.proofs.Standing.{none_past, viewed}
use Rattle.aas_sheet_rows.proofs.Whole.{only, only_row, some_grown, taken}
use Rattle.aas_sheet_rows.proofs.sheet.Sheet.element_of_rank.Goals as goal
use Rattle.aas_sheet_rows.proofs.sheet.Sheet.element_of_rank.Goals.{After-rank_behind-end}

-- the element of the rank, to which its rows grow
here : (c : After-rank_behind-end)
    → (e : Element) × (slice_get (elements_of_all c.args.self.now.kids) c.args.rank ≡ Some e)
    × (deeper 0
    (forest (rows_between c.as_slice-rows.result.now c.as_slice-sides.result.now c.args.rank c.rank_behind-end.result))
    ≡ e ∷ [])
here c =
    let t = c.self.inside in
    let d = c.args.self.now in
    let rs : List Row = c.as_slice-rows.result.now in
    let ss : List Side = c.as_slice-sides.result.now in
    let v = viewed t.head t.rows rs t.sides ss d c.self.invariant.0
    c.self.view_is c.as_slice-rows.ensures c.as_slice-sides.ensures in
    taken t.head rs ss d c.args.rank c.rank_behind-end.result v.0 v.1
    (omega (arith, c.if-rank-sides.false)) c.rank_behind-end.ensures.value c.rank_behind-end.ensures.above

pub returns-then-rank-sides : goal.returns-then-rank-sides
returns-then-rank-sides c =
    let t = c.self.inside in
    let d = c.args.self.now in
    let v = viewed t.head t.rows c.as_slice-rows.result.now t.sides c.as_slice-sides.result.now
    d c.self.invariant.0 c.self.view_is c.as_slice-rows.ensures c.as_slice-sides.ensures in
    sym
    (none_past t.head c.as_slice-rows.result.now c.as_slice-sides.result.now d v.0 v.1 c.args.rank c.if-rank-sides.true)

pub returns-then-end-rank : goal.returns-then-end-rank
returns-then-end-rank c =
    let rs : List Row = c.as_slice-rows.result.now in
    let ss : List Side = c.as_slice-sides.result.now in
    let side : Side = c.index-sides-rank.result in
    let kids : List Element = c.new-kids.result in
    let x : Element = c.in_ok-element.element in
    let long : length rs ≡ length ss =
    ap length c.as_slice-rows.ensures ∙ c.self.invariant.0.long ∙ sym (ap length c.as_slice-sides.ensures) in
    let g = here (goal.at.returns-then-end-rank c).After-rank_behind-end in
    let alone =
    grown_alone rs ss c.args.rank c.rank_behind-end.result c.index-rows-rank.result side kids x long
    (omega (arith, c.if-rank-sides.false)) c.if-end-rank.true
    c.index-rows-rank.is c.index-sides-rank.is c.new-kids.ensures
    (c.in_ok-element.ensures ∙ ap (λ (r : Row). element_of (line_of r side) kids) c.get.ensures) in
    ap (λ (e : Element). Some e) (only_row side.level g.0 x (ap (deeper 0) alone ∙ g.2)) ∙ sym g.1

pub returns-then-is_empty : goal.returns-then-is_empty
returns-then-is_empty c =
    let g = here (goal.at.returns-then-is_empty c).After-rank_behind-end in
    absurd (some_grown c.in_ok-grown.grown g.0 (c.in_ok-grown.ensures ∙ g.2) (c.is_empty.ensures.0 c.if-is_empty.true))

pub returns : goal.returns
returns c =
    let g = here (goal.at.returns c).After-rank_behind-end in
    only c.in_ok-grown.grown g.0 c.remove.result (c.in_ok-grown.ensures ∙ g.2) c.remove.ensures.item ∙ sym g.1
