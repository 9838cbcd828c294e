use Rattle.aas_http.proofs.FirstLaws.{begins_with_one}
use Rattle.aas_http.proofs.laws.begins_with_one.Goals as goal

pub returns : goal.returns
returns c = begins_with_one
