use Rattle.std.proofs.Common.{◌≡◌, ℕ, refl, sym, ap, subst, ◌∙◌, arith}
use Rattle.std.specs.Prelude.{IfSome}
use Rattle.std.proofs.lemmas.Option.{same_Some}
use Rattle.aas_clients.specs.declared.socket.WriteOutcome.TheVariants as given
use Rattle.aas_clients.specs.declared.visit.Visit.{Visit}
use Rattle.std.specs.declared.option.Option.{Option}
use Rattle.std.proofs.Math.ListN.{length-set}
use Rattle.aas_clients.specs.Places.{AreRight, IsFull, IsFullAt, is_large, is_open}
use Rattle.aas_clients.specs.Visits.{number_of}
use Rattle.aas_clients.proofs.Places.{at_place, count_set, keeps_set, lies_at, right_set, stood_at}
use Rattle.aas_clients.proofs.Tables.{same_visit}
use Rattle.aas_clients.proofs.table.Table.give.Goals as goal

pub invariant_of-self-then-number-len : goal.invariant_of-self-then-number-len
invariant_of-self-then-number-len g c =
    let self = c.args.self.now in
    record {
      few = self.few;
      few_open = self.few_open;
      few_large = self.few_large;
      right = subst (λ (n : Option ℕ). AreRight self.places.items self.next n) (ap number_of c.in-Some.is) self.right;
    }

pub invariant_of-self-2 : goal.invariant_of-self-2
invariant_of-self-2 g c =
    let self = c.args.self.now in
    let at = lies_at self.places.items c.in-Some.visit.number _ c.index_mut.result.now self.places.ok.0
    (omega (arith, c.if-number-len.false, c.len.ensures)) c.index_mut.ensures.value in
    let right = subst (λ (n : Option ℕ). AreRight self.places.items self.next n) (ap number_of c.in-Some.is) self.right in
    let moves = c.gives.ensures.moves self.next (stood_at _ _ self.next _ _ at.1 right) in
    let new = c.gives.new.self in
    record {
      few = omega (arith, length-set self.places.items c.in-Some.visit.number new, self.few);
      few_open = count_set is_open _ _ _ new 500 at.0 at.1 moves.changes.opens self.few_open;
      few_large = count_set is_large _ _ _ new 16 at.0 at.1 moves.large self.few_large;
      right = right_set _ _ self.next self.next _ _ new at.0 at.1 moves.changes right;
    }

pub returns-clause-keeps : goal.returns-clause-keeps
returns-clause-keeps g c =
    let self = c.args.self.now in
    let at = lies_at self.places.items c.in-Some.visit.number _ c.index_mut.result.now self.places.ok.0
    (omega (arith, c.if-number-len.false, c.len.ensures)) c.index_mut.ensures.value in
    keeps_set _ _ self.next self.next _ c.gives.new.self at.0 at.1
    (c.gives.ensures.moves self.next (stood_at _ _ self.next _ _ at.1 self.right)).changes

pub returns-then-number-len-clause-visit : goal.returns-then-number-len-clause-visit
returns-then-number-len-clause-visit g c = same_visit _ _ c.in-Some.visit _ c.in-Some.is refl refl refl

pub returns-clause-visit : goal.returns-clause-visit
returns-clause-visit g c = same_visit _ _ c.in-Some.visit _ c.in-Some.is refl refl refl

pub returns-clause-full : goal.returns-clause-full
returns-clause-full g c =
    let self = c.args.self.now in
    let was = at_place self.places.items c.in-Some.visit.number _ c.index_mut.result.now self.places.ok.0
    (omega (arith, c.if-number-len.false, c.len.ensures)) c.index_mut.ensures.value in
    subst (λ (o : Option Visit).
    IfSome o (λ visit. IsFullAt self.places.items visit.number → c.gives.result ≡ given.NotNow))
    (sym c.in-Some.is)
    (λ (place, at, full).
    c.gives.ensures.full (subst (λ p. IsFull p) (same_Some place c.index_mut.result.now (sym at ∙ was)) full))
