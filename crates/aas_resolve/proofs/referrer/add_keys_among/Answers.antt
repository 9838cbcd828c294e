use Rattle.aas_resolve.proofs.Keys.{one_more}
use Rattle.aas_resolve.proofs.referrer.add_keys_among.Goals as goal

pub loop-item-preserved : goal.loop-item-preserved
loop-item-preserved g c =
    one_more (g.S.Store.documents c.args.store.now) g.T.Referrer.references c.args.keys.now
    c.loop-item.keys c.add_dangling_keys.new.keys c.as_slice-item-items.result.now
    c.loop-item.item-index c.item-item.result c.loop-item-test.true
    c.item-item.is c.in_ok-add_dangling_keys.ensures c.loop-item.invariant
