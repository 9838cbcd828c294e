use Rattle.std.proofs.Common.{sym, refl}
use Rattle.std.specs.Str.{encode_utf8_all}
use Rattle.aas_discovery.specs.Index.{carried}
use Rattle.aas_discovery.proofs.Listed.{settled_more}
use Rattle.aas_discovery.proofs.listing.settle.Goals as goal

pub loop-entry-preserved : goal.loop-entry-preserved
loop-entry-preserved g c =
    let shells = (g.S.Store.documents c.args.store.now).shells in
    let l = c.loop-entry in
    let e = c.entry-item.result in
    settled_more shells c.args.entries.now l.entry-index e c.args.index.now l.index c.settle_one.new.index
    (carried shells (encode_utf8_all e.name) (encode_utf8_all e.value) (encode_utf8_all e.id))
    c.loop-entry-test.true (sym c.entry-item.is) refl l.invariant c.settle_one.ensures
