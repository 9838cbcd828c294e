use Rattle.std.proofs.Common.{◌++◌, flat_map}
use Rattle.aas_constraint_rules.specs.Texts.{as_list}
use Rattle.aas_resolve.specs.Held.{held_by_administration, held_by_asset, held_by_extension, held_by_shell}
use Rattle.aas_resolve.proofs.InTurn.{shell_in_turn}
use Rattle.aas_resolve.proofs.Keys.{both, both_of}
use Rattle.aas_resolve.proofs.members.ShellReferrer.add_dangling_keys.Goals as goal

pub returns : goal.returns
returns g c =
    let m = g.S.Store.documents c.args.store.now in
    let old = c.args.keys.now in
    let s = c.args.self.now in
    let one = flat_map held_by_administration (as_list s.head.administration) in
    let two = one ++ held_by_asset s.asset in
    let three = two ++ as_list s.derived_from in
    let four = three ++ flat_map held_by_extension s.head.extensions in
    let at_two = both m old c.add_keys_if_any.new.keys c.add_dangling_keys.new.keys one
    (held_by_asset s.asset) c.in_ok-add_keys_if_any.ensures c.in_ok-add_dangling_keys.ensures in
    let at_three = both m old c.add_dangling_keys.new.keys c.add_keys_of_option.new.keys two
    (as_list s.derived_from) at_two c.in_ok-add_keys_of_option.ensures in
    let at_four = both m old c.add_keys_of_option.new.keys c.add_keys_among.new.keys three
    (flat_map held_by_extension s.head.extensions) at_three c.in_ok-add_keys_among.ensures in
    both_of m c.add_keys_of_list.result old c.add_keys_among.new.keys c.add_keys_of_list.new.keys four s.submodels
    (held_by_shell s) (shell_in_turn s) at_four c.add_keys_of_list.ensures
