use Rattle.aas_constraint_rules.specs.Texts.{as_list}
use Rattle.aas_resolve.specs.Held.{held_by, held_by_qualifier, semantics_members}
use Rattle.aas_resolve.proofs.InTurn.{qualifier_in_turn}
use Rattle.aas_resolve.proofs.Keys.{both_of}
use Rattle.aas_resolve.proofs.referrer.QualifierReferrer.add_dangling_keys.Goals as goal

pub returns : goal.returns
returns g c =
    let q = c.args.self.now in
    both_of (g.S.Store.documents c.args.store.now) c.add_keys_of_option.result
    c.args.keys.now c.add_dangling_keys.new.keys c.add_keys_of_option.new.keys
    (held_by (semantics_members q.semantics)) (as_list q.value_id) (held_by_qualifier q)
    (qualifier_in_turn q) c.in_ok-add_dangling_keys.ensures c.add_keys_of_option.ensures
