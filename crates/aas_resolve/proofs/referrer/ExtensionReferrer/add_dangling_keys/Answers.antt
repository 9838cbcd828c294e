use Rattle.std.proofs.Common.{refl}
use Rattle.aas_resolve.specs.Held.{held_by, held_by_extension, semantics_members}
use Rattle.aas_resolve.proofs.Keys.{both_of}
use Rattle.aas_resolve.proofs.referrer.ExtensionReferrer.add_dangling_keys.Goals as goal

pub returns : goal.returns
returns g c =
    let e = c.args.self.now in
    both_of (g.S.Store.documents c.args.store.now) c.add_dangling_keys.result
    c.args.keys.now c.add_keys_of_list.new.keys c.add_dangling_keys.new.keys
    e.refers_to (held_by (semantics_members e.semantics))
    (held_by_extension e) refl c.in_ok-add_keys_of_list.ensures c.add_dangling_keys.ensures
