use Rattle.aas_store.proofs.Listed.{first_rank, ranked_below, found_here, left_behind}
use Rattle.aas_store.proofs.spots.+rank.Goals as goal

pub of_rank-returns-then-rank-eq0 : goal.of_rank-returns-then-rank-eq0
of_rank-returns-then-rank-eq0 t c = first_rank c.args.element.now c.args.rank c.if-rank-eq0.true

pub of_rank-returns : goal.of_rank-returns
of_rank-returns t c = ranked_below c.of_rank_among.result c.args.element.now c.as_slice.result.now c.args.rank c.if-rank-eq0.false c.as_slice.ensures c.of_rank_among.ensures

pub of_rank_among-returns-in-Ok : goal.of_rank_among-returns-in-Ok
of_rank_among-returns-in-Ok t c =
    let l = c.loop-kid in
    found_here c.args.kids.now c.args.rank l.kid-index l.left c.kid-item.result c.in-Ok.found.now l.invariant c.loop-kid-test.true c.kid-item.is c.in-Ok.ensures

pub of_rank_among-loop-kid-preserved : goal.of_rank_among-loop-kid-preserved
of_rank_among-loop-kid-preserved t c =
    let l = c.loop-kid in
    left_behind c.args.kids.now c.args.rank l.kid-index l.left c.in-Err.rest c.kid-item.result l.invariant c.loop-kid-test.true c.kid-item.is c.in-Err.ensures
