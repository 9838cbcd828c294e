use Rattle.std.proofs.Common.{◌≡◌, ℕ, length, refl, ap, subst, sym, ◌∙◌, arith}
use Rattle.std.specs.Option.{option_and_then}
use Rattle.std.proofs.lemmas.Option.{slice_get_read}
use Rattle.aas_clients.specs.Earliest.{IsEarliest}
use Rattle.aas_clients.specs.Places.{turn_of, turn_at}
use Rattle.aas_clients.proofs.Lowest.{earliest_none, earliest_some, earliest_step}
use Rattle.aas_clients.proofs.earliest.first_waiting.Goals as goal

pub loop-number-preserved : goal.loop-number-preserved
loop-number-preserved g c =
    let places = c.args.places.now in
    let n = c.loop-number.number in
    let place = c.index-places-number in
    earliest_step (turn_at places) c.loop-number.found c.better-found.result n c.turn.result
    (ap (option_and_then turn_of)
    (slice_get_read places (length places) n place.result refl c.loop-number-test.true place.is)
    ∙ sym c.turn.ensures)
    c.better-found.ensures c.loop-number.invariant

pub returns-in-Some-clause-first : goal.returns-in-Some-clause-first
returns-in-Some-clause-first g c =
    let places = c.args.places.now in
    let all : c.loop-number.number ≡ length places =
    omega (arith, c.loop-number-test.false, c.loop-number.auto.number-end) in
    earliest_some turn_of places _ _ c.in-Some.is
    (subst (λ (n : ℕ). IsEarliest c.loop-number.found (turn_at places) n) all c.loop-number.invariant)

pub returns-in-None-clause-none : goal.returns-in-None-clause-none
returns-in-None-clause-none g c =
    let places = c.args.places.now in
    let all : c.loop-number.number ≡ length places =
    omega (arith, c.loop-number-test.false, c.loop-number.auto.number-end) in
    earliest_none turn_of places _ c.in-None.is
    (subst (λ (n : ℕ). IsEarliest c.loop-number.found (turn_at places) n) all c.loop-number.invariant)
