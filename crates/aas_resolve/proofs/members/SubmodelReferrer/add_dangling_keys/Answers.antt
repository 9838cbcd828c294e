use Rattle.std.proofs.Common.{◌++◌, flat_map}
use Rattle.aas_constraint_rules.specs.Texts.{as_list}
use Rattle.aas_resolve.specs.Held.{held_by, held_by_administration, held_by_extension, held_by_qualifier}
use Rattle.aas_resolve.specs.Held.{held_by_submodel, semantics_members}
use Rattle.aas_resolve.proofs.InTurn.{submodel_in_turn}
use Rattle.aas_resolve.proofs.Keys.{both, both_of}
use Rattle.aas_resolve.proofs.members.SubmodelReferrer.add_dangling_keys.Goals as goal

pub returns : goal.returns
returns g c =
    let m = g.S.Store.documents c.args.store.now in
    let old = c.args.keys.now in
    let d = c.args.self.now in
    let administration = flat_map held_by_administration (as_list d.head.administration) in
    let extensions = flat_map held_by_extension d.head.extensions in
    let qualifiers = flat_map held_by_qualifier d.qualifiers in
    let two = both m old c.add_keys_if_any.new.keys c.add_keys_among.new.keys administration
    extensions c.in_ok-add_keys_if_any.ensures c.in_ok-add_keys_among.ensures in
    let three = both m old c.add_keys_among.new.keys c.add_keys_among-2.new.keys
    (administration ++ extensions) qualifiers two c.in_ok-add_keys_among-2.ensures in
    both_of m c.add_dangling_keys.result old c.add_keys_among-2.new.keys c.add_dangling_keys.new.keys
    ((administration ++ extensions) ++ qualifiers) (held_by (semantics_members d.semantics))
    (held_by_submodel d) (submodel_in_turn d) three c.add_dangling_keys.ensures
