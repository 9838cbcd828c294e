use Rattle.aas_value_update.proofs.Place as law
use Rattle.aas_value_update.proofs.faults_after_update.Goals as goal

pub returns-clause-submodel : goal.returns-clause-submodel
returns-clause-submodel c = law.law_of_whole_submodel

pub returns-clause-faults : goal.returns-clause-faults
returns-clause-faults c = law.faults_after_update

pub returns-clause-valid : goal.returns-clause-valid
returns-clause-valid c = law.valid_after_update
