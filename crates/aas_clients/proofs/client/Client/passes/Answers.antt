use Rattle.aas_clients.proofs.Clients.{in_time_same}
use Rattle.aas_clients.proofs.client.Client.passes.Goals as goal

pub returns-then-joins-clause-in_time : goal.returns-then-joins-clause-in_time
returns-then-joins-clause-in_time g c = λ stays visited.
    in_time_same _ _ _ _ c.joins.ensures.same (c.waits.ensures.in_time c.in-Stays.is)
