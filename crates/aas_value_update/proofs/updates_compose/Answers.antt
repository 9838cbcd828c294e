use Rattle.aas_value_update.proofs.Composed as law
use Rattle.aas_value_update.proofs.Rising.{laid_names_rise}
use Rattle.aas_value_update.proofs.updates_compose.Goals as goal

pub returns-clause-element : goal.returns-clause-element
returns-clause-element c = law.updates_compose

pub returns-clause-submodel : goal.returns-clause-submodel
returns-clause-submodel c = law.value_updates_compose

pub returns-clause-shape : goal.returns-clause-shape
returns-clause-shape c = law.laid_values_fit

pub returns-clause-names : goal.returns-clause-names
returns-clause-names c = laid_names_rise
