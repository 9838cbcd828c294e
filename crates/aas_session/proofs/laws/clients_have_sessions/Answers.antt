use Rattle.aas_session.proofs.ClientSessions.{clients_have_sessions}
use Rattle.aas_session.proofs.laws.clients_have_sessions.Goals as goal

pub returns : goal.returns
returns g c = λ room. clients_have_sessions (g.M.Machine.rule room)
