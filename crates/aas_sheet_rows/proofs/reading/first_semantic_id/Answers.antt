use Rattle.std.proofs.Common.{◌≡◌, None, Some, sym, ap, ◌∙◌}
use Rattle.aas_sheet_rows.specs.declared.row.Row.{Row}
use Rattle.aas_sheet_rows.proofs.Below.{begun, semantic_behind, semantic_here, semantic_none}
use Rattle.aas_sheet_rows.proofs.reading.first_semantic_id.Goals as goal

pub loop-rank-init : goal.loop-rank-init
loop-rank-init c = λ k ks a. begun c.args.rows.now c.args.sides.now c.args.first c.args.end k ks a

pub returns-in-Some : goal.returns-in-Some
returns-in-Some c = λ k ks a.
    let l = c.loop-rank in
    let row : Row = c.index-rows-rank.result in
    let some : row.common.semantics.semantic_id ≡ Some c.in-Some.reference =
    ap (λ (r : Row). r.common.semantics.semantic_id) (sym c.get.ensures) ∙ c.in-Some.is in
    semantic_here c.args.rows.now c.args.sides.now l.rank c.args.end k ks row c.requires.table
    c.loop-rank-test.true c.requires.within c.index-rows-rank.is c.in-Some.reference (l.invariant k ks a) some

pub loop-rank-preserved : goal.loop-rank-preserved
loop-rank-preserved c = λ k ks a.
    let l = c.loop-rank in
    let row : Row = c.index-rows-rank.result in
    let none : row.common.semantics.semantic_id ≡ None =
    ap (λ (r : Row). r.common.semantics.semantic_id) (sym c.get.ensures) ∙ c.in-None.is in
    let behind = c.rank_behind-rank.ensures in
    semantic_behind c.args.rows.now c.args.sides.now l.rank c.args.end k ks row c.requires.table c.loop-rank-test.true
    c.requires.within c.index-rows-rank.is c.rank_behind-rank.result (l.invariant k ks a) none behind.value behind.above

pub returns : goal.returns
returns c = λ k ks a.
    semantic_none c.args.rows.now c.args.sides.now c.loop-rank.rank c.args.end k ks c.loop-rank-test.false
    (c.loop-rank.invariant k ks a)
