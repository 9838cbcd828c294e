use Rattle.aas_form.proofs.Keys.{reference_is_there}
use Rattle.aas_form.proofs.laws.references_are_there.Goals as goal

pub returns : goal.returns
returns c = reference_is_there
