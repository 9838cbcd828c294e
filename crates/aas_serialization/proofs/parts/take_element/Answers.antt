use Rattle.std.proofs.Common.{◌++◌, flat_map}
use Rattle.aas_serialization.specs.Roots.{extension_roots, own_roots, qualifier_roots, semantics_roots}
use Rattle.aas_serialization.proofs.Along.{along_both}
use Rattle.aas_serialization.proofs.parts.take_element.Goals as goal

pub returns : goal.returns
returns g c =
    let m = g.S.Store.documents c.args.store.now in
    let old = c.args.taken.now in
    let meant = semantics_roots c.args.common.now.semantics in
    let qualified = flat_map qualifier_roots c.args.common.now.qualifiers in
    let extended = flat_map extension_roots c.args.common.now.extensions in
    along_both m old c.take_among-2.new.taken c.take_roots-2.new.taken (meant ++ qualified ++ extended) (own_roots c.args.payload.now)
    (along_both m old c.take_among.new.taken c.take_among-2.new.taken (meant ++ qualified) extended
    (along_both m old c.take_roots.new.taken c.take_among.new.taken meant qualified c.in_ok-take_roots.ensures c.in_ok-take_among.ensures) c.in_ok-take_among-2.ensures)
    c.in_ok-take_roots-2.ensures
