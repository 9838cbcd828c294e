use Rattle.aas_clients.proofs.Places.{moves_open}
use Rattle.aas_clients.proofs.place.Place.waits.Goals as goal

pub returns-in-Stays-clause-moves : goal.returns-in-Stays-clause-moves
returns-in-Stays-clause-moves g c =
    moves_open _ _ _ _ _ c.in-Open.is c.passes.ensures.goes_on c.passes.ensures.turn
    (c.passes.ensures.stood c.in-Stays.is)
