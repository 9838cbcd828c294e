use Rattle.aas_store.proofs.Rowed as rowed
use Rattle.aas_store.proofs.rows.+row.Goals as goal

pub row_below-returns-then-rank-eq0 : goal.row_below-returns-then-rank-eq0
row_below-returns-then-rank-eq0 t c = rowed.first_row c.args.element.now c.args.level c.args.rank c.of_element.result c.if-rank-eq0.true c.of_element.ensures

pub row_below-returns : goal.row_below-returns
row_below-returns t c =
    rowed.row_below c.row_among.result c.args.element.now c.as_slice.result.now c.args.level c.args.rank c.if-rank-eq0.false c.as_slice.ensures c.row_among.ensures

pub row_among-returns-in-Ok : goal.row_among-returns-in-Ok
row_among-returns-in-Ok t c =
    let l = c.loop-kid in
    rowed.found_here c.args.kids.now c.args.level c.args.rank l.kid-index l.left c.kid-item.result _ l.invariant c.loop-kid-test.true c.kid-item.is c.in-Ok.ensures

pub row_among-loop-kid-preserved : goal.row_among-loop-kid-preserved
row_among-loop-kid-preserved t c =
    let l = c.loop-kid in
    rowed.left_behind c.args.kids.now c.args.level c.args.rank l.kid-index l.left c.in-Err.rest c.kid-item.result l.invariant c.loop-kid-test.true c.kid-item.is c.in-Err.ensures
