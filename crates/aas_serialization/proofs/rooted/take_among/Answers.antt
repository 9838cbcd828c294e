use Rattle.std.proofs.Common.{flat_map, take, ap, ◌∙◌}
use Rattle.std.proofs.lemmas.List.{take_all}
use Rattle.aas_serialization.proofs.Along.{along_item, along_nothing, along_same}
use Rattle.aas_serialization.proofs.rooted.take_among.Goals as goal

pub loop-item-init : goal.loop-item-init
loop-item-init g c = along_nothing (g.S.Store.documents c.args.store.now) c.args.taken.now

pub loop-item-preserved : goal.loop-item-preserved
loop-item-preserved g c =
    along_item (g.S.Store.documents c.args.store.now) g.T.Rooted.roots c.args.taken.now c.loop-item.taken c.take_roots.new.taken c.as_slice-item-items.result.now
    c.loop-item.item-index c.item-item.result c.loop-item-test.true c.item-item.is c.loop-item.invariant c.in_ok-take_roots.ensures

pub returns : goal.returns
returns g c =
    let items = c.as_slice-item-items.result.now in
    along_same (g.S.Store.documents c.args.store.now) c.args.taken.now c.loop-item.taken (flat_map g.T.Rooted.roots (take c.loop-item.item-index items)) (flat_map g.T.Rooted.roots c.args.items.now)
    (ap (flat_map g.T.Rooted.roots) (take_all c.loop-item.item-index items c.loop-item-test.false ∙ c.as_slice-item-items.ensures)) c.loop-item.invariant
