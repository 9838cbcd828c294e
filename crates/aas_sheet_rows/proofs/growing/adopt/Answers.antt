use Rattle.std.proofs.Common.{◌≡◌, ◌<◌, ◌-◌, suc, length, true, sym, ◌∙◌, arith}
use Rattle.aas_sheet_rows.specs.Growing.{top_is_deeper}
use Rattle.aas_sheet_rows.proofs.Grove.{adopt_one, top_there}
use Rattle.aas_sheet_rows.proofs.growing.adopt.Goals as goal

pub loop-grown-preserved : goal.loop-grown-preserved
loop-grown-preserved c =
    let l = c.loop-grown in
    let test : top_is_deeper c.args.level l.grown ≡ true = sym c.is_deeper.ensures ∙ c.loop-grown-test.true in
    let some : 0 < length l.grown = top_there c.args.level l.grown test in
    let long : suc (c.len.result - 1) ≡ length l.grown = omega (arith, c.len.ensures) in
    adopt_one c.args.level c.args.grown.now l.grown c.remove-top.new.self l.kids c.push.new.self
    (c.len.result - 1) c.remove-top.result l.invariant test long c.remove-top.ensures.item c.remove-top.ensures.rest
    c.in_ok-push.ensures.ok
