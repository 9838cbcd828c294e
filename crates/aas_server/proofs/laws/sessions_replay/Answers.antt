use Rattle.aas_server.proofs.Replayed.{sessions_replay}
use Rattle.aas_server.proofs.laws.sessions_replay.Goals as goal

pub returns : goal.returns
returns c = sessions_replay c.accepted_commands_replay.ensures
