use Rattle.aas_sheet_index.proofs.Spliced.{appended}
use Rattle.aas_sheet_index.proofs.splicing.append.Goals as goal

pub returns-in-Ok-clause-ok : goal.returns-in-Ok-clause-ok
returns-in-Ok-clause-ok g c =
    appended c.args.items.now c.args.more c.pour.new.items c.as_mut_slice.result.now c.turn.new.items
    c.len-count.result c.len-count.ensures c.in-Ok.ensures.poured c.as_mut_slice.ensures.value c.turn.ensures
