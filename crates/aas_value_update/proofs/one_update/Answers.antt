use Rattle.aas_value_update.proofs.OneUpdate as law
use Rattle.aas_value_update.proofs.one_update.Goals as goal

pub returns-clause-element : goal.returns-clause-element
returns-clause-element c = law.one_element_update

pub returns-clause-submodel : goal.returns-clause-submodel
returns-clause-submodel c = law.one_value_update
