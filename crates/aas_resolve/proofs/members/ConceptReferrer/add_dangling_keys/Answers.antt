use Rattle.std.proofs.Common.{◌++◌, flat_map}
use Rattle.aas_constraint_rules.specs.Texts.{as_list}
use Rattle.aas_resolve.specs.Held.{held_by_administration, held_by_concept, held_by_extension}
use Rattle.aas_resolve.proofs.InTurn.{concept_in_turn}
use Rattle.aas_resolve.proofs.Keys.{both, both_of}
use Rattle.aas_resolve.proofs.members.ConceptReferrer.add_dangling_keys.Goals as goal

pub returns : goal.returns
returns g c =
    let m = g.S.Store.documents c.args.store.now in
    let concept = c.args.self.now in
    let administration = flat_map held_by_administration (as_list concept.head.administration) in
    let extensions = flat_map held_by_extension concept.head.extensions in
    let so_far = both m c.args.keys.now c.add_keys_if_any.new.keys c.add_keys_among.new.keys
    administration extensions c.in_ok-add_keys_if_any.ensures c.in_ok-add_keys_among.ensures in
    both_of m c.add_keys_of_list.result c.args.keys.now c.add_keys_among.new.keys c.add_keys_of_list.new.keys
    (administration ++ extensions) concept.is_case_of
    (held_by_concept concept) (concept_in_turn concept) so_far c.add_keys_of_list.ensures
