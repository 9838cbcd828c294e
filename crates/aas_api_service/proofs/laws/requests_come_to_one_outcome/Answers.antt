use Rattle.aas_api_service.proofs.OneOutcome.{one_outcome}
use Rattle.aas_api_service.proofs.laws.requests_come_to_one_outcome.Goals as goal

pub returns : goal.returns
returns c = one_outcome c.segments_stand_for_one.ensures c.queries_say_one.ensures c.commands_come_to_one_result.ensures
