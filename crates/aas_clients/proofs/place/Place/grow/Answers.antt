use Rattle.aas_clients.proofs.Places.{grown_open}
use Rattle.aas_clients.proofs.place.Place.grow.Goals as goal

pub returns-in-Open : goal.returns-in-Open
returns-in-Open g c =
    grown_open _ _ _ c.in-Open.is c.grow.ensures.turn c.grow.ensures.inbox
    c.grow.ensures.replies c.grow.ensures.has_ended c.grow.ensures.counts
