use Rattle.aas_environment.proofs.Settled.{comes_back}
use Rattle.aas_environment.proofs.laws.exports_come_back.Goals as goal

pub returns : goal.returns
returns c = comes_back
