use Rattle.aas_clients.proofs.Places.{moves_open}
use Rattle.aas_clients.proofs.place.Place.moves.Goals as goal

pub returns-in-Stays : goal.returns-in-Stays
returns-in-Stays g c =
    moves_open _ _ _ _ _ c.in-Open.is c.turns.ensures.goes_on c.turns.ensures.turn (c.turns.ensures.stood c.in-Stays.is)
