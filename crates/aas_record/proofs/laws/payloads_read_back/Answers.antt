use Rattle.aas_record.proofs.Same.{reads_back}
use Rattle.aas_record.proofs.laws.payloads_read_back.Goals as goal

pub returns : goal.returns
returns c = reads_back
