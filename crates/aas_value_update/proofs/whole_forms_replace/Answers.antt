use Rattle.aas_value_update.proofs.Replaced as law
use Rattle.aas_value_update.proofs.whole_forms_replace.Goals as goal

pub returns-clause-form : goal.returns-clause-form
returns-clause-form c = law.whole_form_replaces

pub returns-clause-element : goal.returns-clause-element
returns-clause-element c = law.whole_form_makes_element
