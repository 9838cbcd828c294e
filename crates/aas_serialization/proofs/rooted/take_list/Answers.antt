use Rattle.std.proofs.Common.{take, ◌∙◌}
use Rattle.std.proofs.lemmas.List.{take_all}
use Rattle.aas_serialization.proofs.Along.{along_nothing, along_reference, along_same}
use Rattle.aas_serialization.proofs.rooted.take_list.Goals as goal

pub loop-reference-init : goal.loop-reference-init
loop-reference-init g c = along_nothing (g.S.Store.documents c.args.store.now) c.args.taken.now

pub loop-reference-preserved : goal.loop-reference-preserved
loop-reference-preserved g c =
    along_reference (g.S.Store.documents c.args.store.now) c.args.taken.now c.loop-reference.taken c.take.new.self c.as_slice-reference-items.result.now
    c.loop-reference.reference-index c.reference-item.result c.loop-reference-test.true c.reference-item.is c.loop-reference.invariant c.in_ok-take.ensures

pub returns : goal.returns
returns g c =
    let items = c.as_slice-reference-items.result.now in
    along_same (g.S.Store.documents c.args.store.now) c.args.taken.now c.loop-reference.taken (take c.loop-reference.reference-index items) c.args.references.now
    (take_all c.loop-reference.reference-index items c.loop-reference-test.false ∙ c.as_slice-reference-items.ensures) c.loop-reference.invariant
