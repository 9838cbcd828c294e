use Rattle.aas_record.proofs.Same.{one_command}
use Rattle.aas_record.proofs.laws.records_are_of_one_command.Goals as goal

pub returns : goal.returns
returns c = one_command
