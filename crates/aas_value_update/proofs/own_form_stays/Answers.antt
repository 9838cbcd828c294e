use Rattle.aas_value_update.proofs.Unchanged as law
use Rattle.aas_value_update.proofs.own_form_stays.Goals as goal

pub returns : goal.returns
returns c = law.own_form_stays
