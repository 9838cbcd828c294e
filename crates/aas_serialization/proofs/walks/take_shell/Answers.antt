use Rattle.std.proofs.Common.{flat_map}
use Rattle.aas_serialization.specs.Roots.{asset_id_roots, extension_roots}
use Rattle.aas_serialization.proofs.Along.{along_both}
use Rattle.aas_serialization.proofs.walks.take_shell.Goals as goal

pub returns : goal.returns
returns g c =
    let s = c.args.shell.now in
    along_both (g.S.Store.documents c.args.store.now) c.args.taken.now c.take_among.new.taken c.take_among-2.new.taken
    (flat_map extension_roots s.head.extensions) (flat_map asset_id_roots s.asset.specific_asset_ids) c.in_ok-take_among.ensures c.in_ok-take_among-2.ensures
