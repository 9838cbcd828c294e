use Rattle.aas_value_laws.proofs.OwnForms as law
use Rattle.aas_value_laws.proofs.own_forms_fit.Goals as goal

pub returns-clause-element : goal.returns-clause-element
returns-clause-element c = law.own_form_fits

pub returns-clause-submodel : goal.returns-clause-submodel
returns-clause-submodel c = law.own_value_fits
