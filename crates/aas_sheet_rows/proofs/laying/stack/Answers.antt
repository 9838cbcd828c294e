use Rattle.std.proofs.Common.{◌-◌, arith}
use Rattle.std.proofs.lemmas.Option.{slice_get_within}
use Rattle.aas_sheet_rows.proofs.Laid.{stacked_more}
use Rattle.aas_sheet_rows.proofs.laying.stack.Goals as goal

pub loop-elements-preserved : goal.loop-elements-preserved
loop-elements-preserved c =
    let l = c.loop-elements in
    let within = slice_get_within l.elements (c.len.result - 1) c.remove-element.result c.remove-element.ensures.item in
    stacked_more c.args.level _ l.elements c.remove-element.new.self l.waiting c.push.new.self (c.len.result - 1)
    c.remove-element.result l.invariant (omega (arith, c.len.ensures, within)) c.remove-element.ensures.item
    c.remove-element.ensures.rest c.in_ok-push.ensures.ok
