use Rattle.aas_repo_replay.proofs.Replayed.{accepted_replay}
use Rattle.aas_repo_replay.proofs.laws.accepted_commands_replay.Goals as goal

pub returns : goal.returns
returns c = accepted_replay
