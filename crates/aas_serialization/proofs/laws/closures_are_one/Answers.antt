use Rattle.aas_serialization.proofs.OneClosure as closure
use Rattle.aas_serialization.proofs.laws.closures_are_one.Goals as goal

pub returns : goal.returns
returns c = closure.closures_are_one
