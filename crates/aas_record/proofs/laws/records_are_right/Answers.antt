use Rattle.aas_record.proofs.Payloads.{right}
use Rattle.aas_record.proofs.laws.records_are_right.Goals as goal

pub returns : goal.returns
returns c = right
