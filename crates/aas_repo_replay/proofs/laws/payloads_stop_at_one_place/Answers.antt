use Rattle.aas_repo_replay.proofs.Replayed.{one_stop}
use Rattle.aas_repo_replay.proofs.laws.payloads_stop_at_one_place.Goals as goal

pub returns : goal.returns
returns c = one_stop c.records_are_of_one_command.ensures c.commands_come_to_one_result.ensures
