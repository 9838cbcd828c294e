use Rattle.std.proofs.Common.{[], ◌∷◌, flat_map}
use Rattle.aas_resolve.proofs.Keys.{all_of, singly}
use Rattle.aas_resolve.proofs.referrer.add_keys_of_list.Goals as goal

pub returns : goal.returns
returns g c =
    let references = c.args.references.now in
    all_of (g.S.Store.documents c.args.store.now) c.add_keys_among.result c.args.keys.now c.add_keys_among.new.keys
    (flat_map (λ r. r ∷ []) references) references
    (singly references) c.add_keys_among.ensures
