use Rattle.std.proofs.Common.{◌<◌, length, arith}
use Rattle.std.proofs.Math.ListN.{length-set}
use Rattle.aas_clients.specs.Places.{IsDone, is_large, is_open}
use Rattle.aas_clients.proofs.Places.{count_set, counted_set, keeps_set, lies_at, none_there, only_set}
use Rattle.aas_clients.proofs.Places.{right_set, set_has}
use Rattle.aas_clients.proofs.table.Table.meets.Goals as goal

pub invariant_of-self : goal.invariant_of-self
invariant_of-self g c =
    let self = c.args.self.now in
    let at = lies_at self.places.items c.args.number _ c.index_mut.result.now self.places.ok.0
    (omega (arith, c.if-number-len.true, c.len.ensures)) c.index_mut.ensures.value in
    let new = c.meets.new.self in
    let moves = c.meets.ensures.moves in
    record {
      few = omega (arith, length-set self.places.items c.args.number new, self.few);
      few_open = count_set is_open _ _ _ new 500 at.0 at.1 moves.changes.opens self.few_open;
      few_large = count_set is_large _ _ _ new 16 at.0 at.1 moves.large self.few_large;
      right = right_set _ _ self.next c.meets.new.next _ _ new at.0 at.1 moves.changes self.right;
    }

pub returns-then-number-len-clause-keeps : goal.returns-then-number-len-clause-keeps
returns-then-number-len-clause-keeps g c =
    let self = c.args.self.now in
    let at = lies_at self.places.items c.args.number _ c.index_mut.result.now self.places.ok.0
    (omega (arith, c.if-number-len.true, c.len.ensures)) c.index_mut.ensures.value in
    keeps_set _ _ self.next c.meets.new.next _ c.meets.new.self at.0 at.1 c.meets.ensures.moves.changes

pub returns-then-number-len-clause-only : goal.returns-then-number-len-clause-only
returns-then-number-len-clause-only g c = only_set c.args.self.now.places.items c.args.number c.meets.new.self

pub returns-then-number-len-clause-done : goal.returns-then-number-len-clause-done
returns-then-number-len-clause-done g c =
    let self = c.args.self.now in
    let here : c.args.number < length self.places.items =
    omega (arith, c.if-number-len.true, c.len.ensures, self.places.ok.0) in
    set_has (IsDone c.args.event c.args.now) self.places.items c.args.number c.meets.new.self here c.meets.ensures.done

pub returns-else-number-len-clause-done : goal.returns-else-number-len-clause-done
returns-else-number-len-clause-done g c =
    let self = c.args.self.now in
    none_there (IsDone c.args.event c.args.now) self.places.items c.args.number
    (omega (arith, c.if-number-len.false, c.len.ensures, self.places.ok.0))

pub returns-then-number-len-clause-counted : goal.returns-then-number-len-clause-counted
returns-then-number-len-clause-counted g c =
    let self = c.args.self.now in
    let at = lies_at self.places.items c.args.number _ c.index_mut.result.now self.places.ok.0
    (omega (arith, c.if-number-len.true, c.len.ensures)) c.index_mut.ensures.value in
    counted_set _ _ _ c.meets.new.self at.0 at.1
