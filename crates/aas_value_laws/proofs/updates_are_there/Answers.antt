use Rattle.aas_value_laws.proofs.There as law
use Rattle.aas_value_laws.proofs.updates_are_there.Goals as goal

pub returns-clause-element : goal.returns-clause-element
returns-clause-element c = law.update_is_there

pub returns-clause-submodel : goal.returns-clause-submodel
returns-clause-submodel c = law.value_update_is_there
