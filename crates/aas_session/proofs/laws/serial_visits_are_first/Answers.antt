use Rattle.aas_session.proofs.ClientSessions.{serial_visits_are_first}
use Rattle.aas_session.proofs.laws.serial_visits_are_first.Goals as goal

pub returns : goal.returns
returns g c = λ room. serial_visits_are_first (g.M.Machine.rule room)
