use Rattle.aas_step.proofs.Validity.{stays_valid}
use Rattle.aas_step.proofs.documents_stay_valid.Goals as goal

pub returns : goal.returns
returns c = stays_valid
