use Rattle.std.proofs.Common.{◌-◌, sym, arith}
use Rattle.aas_lemmas.proofs.Lists.{past_end}
use Rattle.aas_sheet_rows.proofs.Grove.{top_test}
use Rattle.aas_sheet_rows.proofs.growing.is_deeper.Goals as goal

pub returns-in-Some : goal.returns-in-Some
returns-in-Some c =
    top_test c.args.level c.args.grown.now c.len-count.result c.in-Some.top.now c.len-count.ensures
    (omega (arith, c.if-count-eq0.false)) c.in-Some.ensures

pub returns-in-None : goal.returns-in-None
returns-in-None c =
    let none = past_end c.args.grown.now (c.len-count.result - 1) (sym c.in-None.ensures) in
    absurd (omega (arith, none, c.len-count.ensures, c.if-count-eq0.false))
