use Rattle.std.proofs.Common.{ℕ, Some, sym, subst, arith, refl}
use Rattle.std.specs.declared.option.Option.{Option}
use Rattle.aas_clients.specs.Places.{AreRight}
use Rattle.aas_clients.proofs.Tables.{large_put, number_of-none, open_put, right_put}
use Rattle.aas_clients.proofs.table.Table.accept.Goals as goal

pub invariant_of-self : goal.invariant_of-self
invariant_of-self g c =
    let self = c.args.self.now in
    let same = c.in_err-number.ensures.none in
    record {
      few = rw same self.few;
      few_open = rw same self.few_open;
      few_large = rw same self.few_large;
      right = rw same self.right;
    }

pub invariant_of-self-2 : goal.invariant_of-self-2
invariant_of-self-2 g c =
    let self = c.args.self.now in
    let places = self.places.items in
    let now = c.put.new.places.items in
    let k = c.in_ok-number.number in
    let client = c.new-client.result in
    let put = c.in_ok-number.ensures.some in
    let right = subst (λ (n : Option ℕ). AreRight places self.next n)
    (number_of-none self.present c.is_some.result c.is_some.ensures c.if-is_some.false) self.right in
    record {
      few = put.few;
      few_open = omega (arith, open_put places now k client put, c.if-open-ge-OPEN_CLIENTS.false, c.open.ensures);
      few_large = large_put places now k 16 client put c.new-client.ensures.small self.few_large;
      right =
          subst (λ (n : ℕ). AreRight now self.next (Some n)) (sym c.nothing.ensures.number)
          (right_put places now k self.next client put c.new-client.ensures.turn right);
    }

pub returns-clause-some : goal.returns-clause-some
returns-clause-some g c =
    let client = c.new-client.ensures in
    record {
      client = c.new-client.result;
      visit = c.nothing.result;
      put = c.in_ok-number.ensures.some;
      nothing = client.inbox;
      none = cc (client.counts.0, client.counts.1);
      visited = client.turn;
      begun = refl;
      there = c.nothing.ensures.number;
      empty = c.nothing.ensures.bytes;
    }
