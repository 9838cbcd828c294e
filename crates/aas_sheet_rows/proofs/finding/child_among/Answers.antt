use Rattle.std.proofs.Common.{ℕ, ◌<◌, List, length, get_or, ap, ◌∙◌, rules}
use Rattle.aas_model.specs.Payload as payload
use Rattle.aas_store.specs.Spots.{step_of}
use Rattle.aas_sheet_rows.specs.declared.row.Row.{Row}
use Rattle.aas_sheet_index.specs.declared.side.Side.{Side}
use Rattle.aas_sheet_rows.proofs.Found.{no_child, stepped}
use Rattle.aas_sheet_rows.proofs.Standing.{no_spot, spot_there}
use Rattle.aas_sheet_rows.proofs.finding.child_among.Goals as goal

pub returns-in-Some : goal.returns-in-Some
returns-in-Some c = λ ks a.
    let rs : List Row = c.args.rows.now in
    let ss : List Side = c.args.sides.now in
    let rank : ℕ = c.in-Some.rank in
    let inside : rank < length ss = search rules in
    spot_there rs ss c.args.span.first c.args.span.level rank ks c.args.in_list (step_of c.args.step)
    (get_or rs rank c.index-rows-rank.result) c.kind.result c.requires.table.long inside
    (ap (get_or rs rank) c.index-rows-rank.is)
    (c.kind.ensures ∙ ap (λ (r : Row). payload.kind_of r.payload) (c.get.ensures ∙ c.index-rows-rank.is))
    (stepped rs ss c.args.span.first c.args.span.end c.args.span.level rank ks c.args.in_list
    (step_of c.args.step) c.requires.table a c.in-Some.ensures.value)

pub returns-in-None : goal.returns-in-None
returns-in-None c = λ ks a.
    no_spot c.args.span.first ks c.args.in_list (step_of c.args.step)
    (no_child c.args.rows.now c.args.sides.now c.args.span.first c.args.span.end c.args.span.level ks c.args.in_list
    (step_of c.args.step) c.requires.table a c.in-None.ensures.value)
