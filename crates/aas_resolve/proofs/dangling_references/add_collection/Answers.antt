use Rattle.std.proofs.Common.{sym}
use Rattle.std.specs.Option.{option_copied}
use Rattle.aas_store.proofs.Above.{fewer_left}
use Rattle.aas_resolve.proofs.UpTo.{all_done, at_first, one_more}
use Rattle.aas_resolve.proofs.dangling_references.add_collection.Goals as goal

pub loop-id-init : goal.loop-id-init
loop-id-init g c = at_first (g.S.Store.documents c.args.store.now) c.args.collection c.args.found.now

pub loop-id-smaller : goal.loop-id-smaller
loop-id-smaller g c =
    fewer_left c.args.collection (g.S.Store.documents c.args.store.now)
    (option_copied c.loop-id.after) c.in-Some.id.now (sym c.in-Some.ensures)

pub loop-id-preserved : goal.loop-id-preserved
loop-id-preserved g c =
    one_more (g.S.Store.documents c.args.store.now) c.args.collection c.args.found.now
    c.loop-id.found c.add_document.new.found (option_copied c.loop-id.after) c.in-Some.id.now
    (sym c.in-Some.ensures) c.in_ok-add_document.ensures c.loop-id.invariant

pub returns : goal.returns
returns g c =
    all_done (g.S.Store.documents c.args.store.now) c.args.collection c.args.found.now c.loop-id.found
    (option_copied c.loop-id.after) (sym c.in_default.ensures) c.loop-id.invariant
