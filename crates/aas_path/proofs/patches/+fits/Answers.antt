use Rattle.std.proofs.Common.{option_map, ap, ◌∙◌, arith}
use Rattle.aas_path.specs.Walk.{left_of}
use Rattle.aas_path.proofs.FitWalk.{one_met, one_unmet, turned, stopped, ended}
use Rattle.aas_path.proofs.patches.+fits.Goals as goal

pub meet_one-returns-in_err-ahead : goal.meet_one-returns-in_err-ahead
meet_one-returns-in_err-ahead t c =
    ap (option_map (left_of c.args.rows.now)) c.from_residual.ensures ∙ one_unmet c.args.element.now c.kind.result (left_of c.args.rows.now c.args.ahead) c.kind.ensures c.in_err-ahead.ensures

pub meet_one-returns : goal.meet_one-returns
meet_one-returns t c =
    one_met c.args.element.now c.kind.result c.as_slice.result.now (left_of c.args.rows.now c.args.ahead) (left_of c.args.rows.now c.in_ok-ahead.ahead) _ c.kind.ensures c.as_slice.ensures c.in_ok-ahead.ensures c.meet_all.ensures

pub meet_all-returns-in_err-ahead : goal.meet_all-returns-in_err-ahead
meet_all-returns-in_err-ahead t c =
    let l = c.loop-kid in
    ap (option_map (left_of c.args.rows.now)) c.from_residual.ensures
    ∙ stopped c.args.kids.now l.kid-index c.kid-item.result (left_of c.args.rows.now l.ahead) _ (omega arith) c.kid-item.is l.invariant c.in_err-ahead.ensures

pub meet_all-returns : goal.meet_all-returns
meet_all-returns t c = let l = c.loop-kid in ended c.args.kids.now l.kid-index (left_of c.args.rows.now l.ahead) _ (omega arith) l.invariant

pub meet_all-loop-kid-preserved : goal.meet_all-loop-kid-preserved
meet_all-loop-kid-preserved t c =
    let l = c.loop-kid in
    turned c.args.kids.now l.kid-index c.kid-item.result (left_of c.args.rows.now l.ahead) (left_of c.args.rows.now c.in_ok-ahead.ahead) _ (omega arith) c.kid-item.is
    l.invariant c.in_ok-ahead.ensures
