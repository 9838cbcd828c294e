use Rattle.aas_clients.proofs.place.Place.is_quiet.Goals as goal

pub returns-in-Open-clause-quiet : goal.returns-in-Open-clause-quiet
returns-in-Open-clause-quiet g c = λ is.
    let E = c.is_quiet.ensures in
    record {
      client = c.in-Open.client;
      here = c.in-Open.is;
      off = E.off is;
      nothing = E.nothing is;
      taken = E.taken is;
      goes_on = E.goes_on is;
    }
