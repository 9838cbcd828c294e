use Rattle.aas_environment.proofs.Settled as settled
use Rattle.aas_environment.proofs.laws.twice_is_once.Goals as goal

pub returns : goal.returns
returns c = settled.twice_is_once
