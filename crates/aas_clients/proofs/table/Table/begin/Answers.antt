use Rattle.std.proofs.Common.{◌≡◌, ◌<◌, ℕ, length, Some, slice_get, refl, subst, arith}
use Rattle.std.specs.declared.option.Option.{Option}
use Rattle.std.proofs.Math.ListN.{length-set}
use Rattle.aas_clients.specs.Places.{AreRight, is_large, is_open}
use Rattle.aas_clients.proofs.Places.{count_set, keeps_set, lies_at, moves_closed, right_set}
use Rattle.aas_clients.proofs.Tables.{begins_large, begins_opens, if_none, begins_at, next_within}
use Rattle.aas_clients.proofs.Tables.{number_of-none, right_begins}
use Rattle.aas_clients.proofs.table.Table.begin.Goals as goal
use Rattle.aas_clients.proofs.table.Table.begin.Goals.{After-index_mut}

-- whose turn it is lies in the table
lies : (g : _) (c : After-index_mut g) → (c.in_ok-number.number < length c.args.self.now.places.items)
    × (slice_get c.args.self.now.places.items c.in_ok-number.number ≡ Some c.index_mut.result.now)
lies g c =
    let self = c.args.self.now in
    let k = c.in_ok-number.number in
    let here : k < length self.places.items =
    next_within c.as_slice.result.now self.places.items k c.as_slice.ensures.value c.in_ok-number.ensures.first in
    lies_at self.places.items k _ c.index_mut.result.now self.places.ok.0
    (omega (arith, here, self.places.ok.0)) c.index_mut.ensures.value

pub invariant_of-self-in-Break-branch-2 : goal.invariant_of-self-in-Break-branch-2
invariant_of-self-in-Break-branch-2 g c =
    let self = c.args.self.now in
    let at = lies g (goal.at.invariant_of-self-in-Break-branch-2 g c).After-index_mut in
    let new = c.hands_over.new.self in
    let moves = moves_closed c.index_mut.result.now new self.next self.next
    c.in_err-handed.ensures.none (omega arith) in
    record {
      few = omega (arith, length-set self.places.items c.in_ok-number.number new, self.few);
      few_open = count_set is_open _ _ _ new 500 at.0 at.1 moves.changes.opens self.few_open;
      few_large = count_set is_large _ _ _ new 16 at.0 at.1 moves.large self.few_large;
      right = right_set _ _ self.next self.next _ _ new at.0 at.1 moves.changes self.right;
    }

pub returns-in_err-handed-clause-none : goal.returns-in_err-handed-clause-none
returns-in_err-handed-clause-none g c =
    let self = c.args.self.now in
    let at = lies g (goal.at.returns-in_err-handed-clause-none g c).After-index_mut in
    if_none _ _ (keeps_set _ _ self.next self.next _ c.hands_over.new.self at.0 at.1
    (moves_closed c.index_mut.result.now c.hands_over.new.self self.next self.next
    c.in_err-handed.ensures.none (omega arith)).changes)

pub invariant_of-self-2 : goal.invariant_of-self-2
invariant_of-self-2 g c =
    let self = c.args.self.now in
    let at = lies g (goal.at.invariant_of-self-2 g c).After-index_mut in
    let old = c.index_mut.result.now in
    let begins = c.in_ok-handed.ensures.some in
    let handed = c.in_ok-handed.handed in
    let new = c.hands_over.new.self in
    let k = c.in_ok-number.number in
    let right = subst (λ (n : Option ℕ). AreRight self.places.items self.next n)
    (number_of-none self.present c.is_some.result c.is_some.ensures c.if-is_some.false) self.right in
    record {
      few = omega (arith, length-set self.places.items k new, self.few);
      few_open = count_set is_open _ _ _ new 500 at.0 at.1 (begins_opens old new handed begins) self.few_open;
      few_large = count_set is_large _ _ _ new 16 at.0 at.1 (begins_large old new handed begins) self.few_large;
      right = right_begins self.places.items k self.next old new handed at.0 begins right;
    }

pub returns-clause-first : goal.returns-clause-first
returns-clause-first g c = rw (← c.as_slice.ensures.value) c.in_ok-number.ensures.first

pub returns-clause-begins : goal.returns-clause-begins
returns-clause-begins g c =
    let at = lies g (goal.at.returns-clause-begins g c).After-index_mut in
    begins_at c.args.self.now.places.items c.in_ok-number.number c.index_mut.result.now c.hands_over.new.self _ _
    at.1 refl refl refl c.in_ok-handed.ensures.some
