use Rattle.aas_step.proofs.Storable.{valid_is_storable}
use Rattle.aas_step.proofs.valid_submodels_are_storable.Goals as goal

pub returns : goal.returns
returns c = valid_is_storable
