use Rattle.std.proofs.Common.{◌++◌, flat_map}
use Rattle.aas_constraint_rules.specs.Sites.{own_of}
use Rattle.aas_constraint_rules.specs.Texts.{as_list}
use Rattle.aas_resolve.specs.Held.{held_by_element, held_by_extension, held_by_qualifier}
use Rattle.aas_resolve.specs.OwnMembers.{before_qualifiers, before_semantic_id, behind_all, behind_semantic_id}
use Rattle.aas_resolve.proofs.InTurn.{element_in_turn}
use Rattle.aas_resolve.proofs.Keys.{both, both_of}
use Rattle.aas_resolve.proofs.members.ElementReferrer.add_dangling_keys.Goals as goal

pub returns : goal.returns
returns g c =
    let m = g.S.Store.documents c.args.store.now in
    let old = c.args.keys.now in
    let o = own_of c.args.self.now in
    let one = flat_map held_by_extension o.common.extensions in
    let two = one ++ before_qualifiers o.payload in
    let three = two ++ flat_map held_by_qualifier o.common.qualifiers in
    let four = three ++ before_semantic_id o.payload in
    let five = four ++ as_list o.common.semantics.semantic_id in
    let six = five ++ behind_semantic_id o.payload in
    let seven = six ++ o.common.semantics.supplemental_semantic_ids in
    let at_two = both m old c.add_keys_among.new.keys c.add_before_qualifiers.new.keys one
    (before_qualifiers o.payload) c.in_ok-add_keys_among.ensures c.in_ok-add_before_qualifiers.ensures in
    let at_three = both m old c.add_before_qualifiers.new.keys c.add_keys_among-2.new.keys two
    (flat_map held_by_qualifier o.common.qualifiers) at_two c.in_ok-add_keys_among-2.ensures in
    let at_four = both m old c.add_keys_among-2.new.keys c.add_before_semantic_id.new.keys three
    (before_semantic_id o.payload) at_three c.in_ok-add_before_semantic_id.ensures in
    let at_five = both m old c.add_before_semantic_id.new.keys c.add_keys_of_option.new.keys four
    (as_list o.common.semantics.semantic_id) at_four c.in_ok-add_keys_of_option.ensures in
    let at_six = both m old c.add_keys_of_option.new.keys c.add_behind_semantic_id.new.keys five
    (behind_semantic_id o.payload) at_five c.in_ok-add_behind_semantic_id.ensures in
    let at_seven = both m old c.add_behind_semantic_id.new.keys c.add_keys_of_list.new.keys
    six o.common.semantics.supplemental_semantic_ids at_six c.in_ok-add_keys_of_list.ensures in
    both_of m c.add_behind_all.result old c.add_keys_of_list.new.keys c.add_behind_all.new.keys seven
    (behind_all o.payload) (held_by_element o) (element_in_turn o) at_seven c.add_behind_all.ensures
