use Rattle.std.proofs.Common.{ℕ, ◌+◌, List, get_or, ap, ◌∙◌, rules, ◌<◌, length, subst}
use Rattle.aas_path_trees.specs.Children.{is_list_payload}
use Rattle.aas_store.specs.Spots.{step_of}
use Rattle.aas_sheet_rows.specs.Found.{Among}
use Rattle.aas_sheet_rows.specs.declared.row.Row.{Row}
use Rattle.aas_sheet_index.specs.declared.side.Side.{Side}
use Rattle.aas_sheet_rows.proofs.Standing.{no_spot_past, spot_of_rank, viewed}
use Rattle.aas_sheet_rows.proofs.sheet.Sheet.child_of_rank.Goals as goal

pub returns-then-rank-sides : goal.returns-then-rank-sides
returns-then-rank-sides c =
    let t = c.self.inside in
    let d = c.args.self.now in
    let v = viewed t.head t.rows c.as_slice-rows.result.now t.sides c.as_slice-sides.result.now
    d c.self.invariant.0 c.self.view_is c.as_slice-rows.ensures c.as_slice-sides.ensures in
    no_spot_past t.head c.as_slice-rows.result.now c.as_slice-sides.result.now d v.0 v.1 c.args.rank
    (step_of c.args.step) c.if-rank-sides.true

pub returns : goal.returns
returns c =
    let t = c.self.inside in
    let d = c.args.self.now in
    let rs : List Row = c.as_slice-rows.result.now in
    let ss : List Side = c.as_slice-sides.result.now in
    let rank : ℕ = c.args.rank in
    let v = viewed t.head t.rows rs t.sides ss d c.self.invariant.0
    c.self.view_is c.as_slice-rows.ensures c.as_slice-sides.ensures in
    let row : Row = get_or rs rank c.index-rows-rank.result in
    let side : Side = get_or ss rank c.index-sides-rank.result in
    let inside : rank < length ss = search rules in
    spot_of_rank t.head rs ss d v.0 v.1 rank c.rank_behind.result row side (step_of c.args.step)
    c.is_list-in_list.result c.child_among.result inside (ap (get_or rs rank) c.index-rows-rank.is)
    (ap (get_or ss rank) c.index-sides-rank.is) c.rank_behind.ensures.value c.rank_behind.ensures.above
    (c.is_list-in_list.ensures ∙ ap (λ (r : Row). is_list_payload r.payload) (c.get.ensures ∙ c.index-rows-rank.is))
    (λ ks a. c.child_among.ensures ks
    (subst (λ (ss : List Side). Among rs ss (rank + 1) c.rank_behind.result side.level ks) c.as_slice-sides.ensures a))
