use Rattle.aas_value_laws.proofs.Full.{whole_value_is_laid}
use Rattle.aas_value_laws.proofs.OwnFull.{own_form_has_all}
use Rattle.aas_value_laws.proofs.whole_values_stay.Goals as goal

pub returns-clause-form : goal.returns-clause-form
returns-clause-form c = own_form_has_all

pub returns-clause-value : goal.returns-clause-value
returns-clause-value c = whole_value_is_laid
