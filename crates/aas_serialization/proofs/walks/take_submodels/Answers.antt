use Rattle.std.proofs.Common.{sym}
use Rattle.std.specs.Option.{option_copied}
use Rattle.aas_serialization.specs.Roots.{submodel_roots_at}
use Rattle.aas_serialization.proofs.Walked.{fewer_left, taking_begun, taking_ended, taking_next}
use Rattle.aas_serialization.proofs.walks.take_submodels.Goals as goal

pub loop-id-init : goal.loop-id-init
loop-id-init g c = let m = g.S.Store.documents c.args.store.now in taking_begun m (submodel_roots_at m) c.args.ids.now c.args.taken.now

pub loop-id-smaller : goal.loop-id-smaller
loop-id-smaller g c = fewer_left c.args.ids.now (option_copied c.loop-id.after) c.in-Some.id.now (sym c.in-Some.ensures)

pub loop-id-preserved : goal.loop-id-preserved
loop-id-preserved g c =
    let m = g.S.Store.documents c.args.store.now in
    taking_next m (submodel_roots_at m) c.args.ids.now c.args.taken.now c.loop-id.taken c.take_submodel_at.new.taken (option_copied c.loop-id.after) c.in-Some.id.now
    (sym c.in-Some.ensures) c.loop-id.invariant c.in_ok-take_submodel_at.ensures

pub returns : goal.returns
returns g c =
    let m = g.S.Store.documents c.args.store.now in
    taking_ended m (submodel_roots_at m) c.args.ids.now c.args.taken.now c.loop-id.taken (option_copied c.loop-id.after) (sym c.in_default.ensures) c.loop-id.invariant
