use Rattle.aas_repo_replay.proofs.Replayed.{replays_valid}
use Rattle.aas_repo_replay.proofs.laws.replays_are_valid.Goals as goal

pub returns : goal.returns
returns c = replays_valid
