use Rattle.aas_http.proofs.Ending.{ends_by_itself}
use Rattle.aas_http.proofs.laws.ends_by_itself.Goals as goal

pub returns : goal.returns
returns c = ends_by_itself
