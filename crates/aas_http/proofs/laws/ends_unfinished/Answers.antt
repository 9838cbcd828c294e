use Rattle.aas_http.proofs.FirstLaws.{ends_unfinished}
use Rattle.aas_http.proofs.laws.ends_unfinished.Goals as goal

pub returns : goal.returns
returns c = ends_unfinished
