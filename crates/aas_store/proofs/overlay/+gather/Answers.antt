use Rattle.std.proofs.Common.{arith}
use Rattle.aas_store.proofs.PutOver.{both_gathered}
use Rattle.aas_store.proofs.overlay.+gather.Goals as goal

pub returns-then-count-gt1 : goal.returns-then-count-gt1
returns-then-count-gt1 g t c =
    both_gathered g.D.Identified.id_of c.args.documents.now c.gather.new.documents c.gather-then-count-gt1.new.documents _ _ c.args.count
    c.in_ok-later.later c.in_ok-shelf.shelf c.take_in.new.self c.in_ok-later.ensures c.in_ok-shelf.ensures c.take_in.ensures (omega arith)
