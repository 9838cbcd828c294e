use Rattle.aas_record.proofs.Payloads.{one_place}
use Rattle.aas_record.proofs.laws.payloads_go_wrong_once.Goals as goal

pub returns : goal.returns
returns c = one_place
