use Rattle.aas_api_service.specs.Turns.{Turns}
use Rattle.aas_session.proofs.ClientSessions.{serial_visits_are_first}
use Rattle.aas_server.proofs.laws.serial_visits_are_first.Goals as goal

pub returns : goal.returns
returns c = λ room. serial_visits_are_first (Turns room)
