use Rattle.aas_step.proofs.Results.{one_result}
use Rattle.aas_step.proofs.commands_come_to_one_result.Goals as goal

pub returns : goal.returns
returns c = one_result
