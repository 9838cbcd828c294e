use Rattle.aas_constraint_laws.proofs.Siblings.{elements_have_one_path}
use Rattle.aas_constraint_laws.proofs.valid_elements_have_one_path.Goals as goal

pub returns : goal.returns
returns c = elements_have_one_path
