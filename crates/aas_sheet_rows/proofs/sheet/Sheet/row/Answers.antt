use Rattle.std.proofs.Common.{ℕ, ◌<◌, List, get_or, length, slice_get, Some, sym, ap, ◌∙◌, arith, rules}
use Rattle.std.proofs.lemmas.Option.{slice_get_past}
use Rattle.aas_model.specs.declared.documents.Submodel.{Submodel}
use Rattle.aas_rows.specs.Rows.{rows_of_all}
use Rattle.aas_sheet_rows.specs.Table.{line_of, lines_of}
use Rattle.aas_sheet_rows.specs.declared.row.Row.{Row}
use Rattle.aas_sheet_index.specs.declared.side.Side.{Side}
use Rattle.aas_sheet_rows.proofs.Found.{line_there}
use Rattle.aas_sheet_rows.proofs.Loans.{lines_long, rows_same}
use Rattle.aas_sheet_rows.proofs.Standing.{viewed}
use Rattle.aas_sheet_rows.proofs.sheet.Sheet.row.Goals as goal

pub returns-then-rank-sides : goal.returns-then-rank-sides
returns-then-rank-sides c =
    let t = c.self.inside in
    let rs : List Row = c.as_slice-rows.result.now in
    let ss : List Side = c.as_slice-sides.result.now in
    let v = viewed t.head t.rows rs t.sides ss c.args.self.now c.self.invariant.0
    c.self.view_is c.as_slice-rows.ensures c.as_slice-sides.ensures in
    let long = lines_long rs ss v.0.long in
    let same = ap (λ (d : Submodel). rows_of_all d.kids 1) (sym v.1) ∙ rows_same t.head rs ss v.0 in
    sym (ap (λ ls. slice_get ls c.args.rank) same
    ∙ slice_get_past (lines_of rs ss) c.args.rank (omega (arith, long, v.0.long, c.if-rank-sides.true)))

pub returns : goal.returns
returns c =
    let t = c.self.inside in
    let rs : List Row = c.as_slice-rows.result.now in
    let ss : List Side = c.as_slice-sides.result.now in
    let rank : ℕ = c.args.rank in
    let v = viewed t.head t.rows rs t.sides ss c.args.self.now c.self.invariant.0
    c.self.view_is c.as_slice-rows.ensures c.as_slice-sides.ensures in
    let row : Row = get_or rs rank c.index-rows-rank.result in
    let side : Side = get_or ss rank c.index-sides-rank.result in
    let inside : rank < length ss = search rules in
    let same = ap (λ (d : Submodel). rows_of_all d.kids 1) (sym v.1) ∙ rows_same t.head rs ss v.0 in
    ap (λ l. Some l)
    (c.view.ensures ∙ ap (λ r. line_of r c.index-sides-rank.result) (c.get.ensures ∙ c.index-rows-rank.is)
    ∙ ap (line_of row) c.index-sides-rank.is)
    ∙ sym (ap (λ ls. slice_get ls rank) same
    ∙ line_there rs ss rank c.index-rows-rank.result c.index-sides-rank.result v.0.long inside)
