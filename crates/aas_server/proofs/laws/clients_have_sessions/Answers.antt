use Rattle.aas_api_service.specs.Turns.{Turns}
use Rattle.aas_session.proofs.ClientSessions.{clients_have_sessions}
use Rattle.aas_server.proofs.laws.clients_have_sessions.Goals as goal

pub returns : goal.returns
returns c = λ room. clients_have_sessions (Turns room)
