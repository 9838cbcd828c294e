use Rattle.aas_value_update.proofs.OneForm as law
use Rattle.aas_value_update.proofs.one_form.Goals as goal

pub returns : goal.returns
returns c = law.one_form
