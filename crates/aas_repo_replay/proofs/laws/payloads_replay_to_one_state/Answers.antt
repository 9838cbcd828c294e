use Rattle.aas_repo_replay.proofs.Replayed.{one_replay}
use Rattle.aas_repo_replay.proofs.laws.payloads_replay_to_one_state.Goals as goal

pub returns : goal.returns
returns c = one_replay c.records_are_of_one_command.ensures c.commands_come_to_one_result.ensures
