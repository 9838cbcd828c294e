use Rattle.std.proofs.Common.{subst}
use Rattle.aas_clients.specs.Places.{Moves}
use Rattle.aas_clients.proofs.Places.{moves_none, moves_visited}
use Rattle.aas_clients.proofs.place.Place.gives.Goals as goal

pub returns-in-Visited-clause-moves : goal.returns-in-Visited-clause-moves
returns-in-Visited-clause-moves g c = λ next stood.
    moves_visited _ _ _ next c.in-Open.is c.in-Visited.is c.give.ensures.turn c.give.ensures.goes_on

pub returns-in-Off-clause-moves : goal.returns-in-Off-clause-moves
returns-in-Off-clause-moves g c = λ next stood.
    subst (λ p. Moves c.args.self.now p next next) c.in-Open.is (moves_none c.args.self.now next stood)

pub returns-in-Waits-clause-moves : goal.returns-in-Waits-clause-moves
returns-in-Waits-clause-moves g c = λ next stood.
    subst (λ p. Moves c.args.self.now p next next) c.in-Open.is (moves_none c.args.self.now next stood)
