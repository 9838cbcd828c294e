use Rattle.aas_demo.proofs.Valid.{valid}
use Rattle.aas_demo.proofs.laws.demos_are_valid.Goals as goal

pub returns : goal.returns
returns c = valid
