use Rattle.aas_template.proofs.Themselves.{conform_to_themselves}
use Rattle.aas_template.proofs.laws.submodels_conform_to_themselves.Goals as goal

pub returns : goal.returns
returns c = conform_to_themselves
