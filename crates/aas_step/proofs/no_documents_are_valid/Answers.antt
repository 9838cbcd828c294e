use Rattle.aas_step.proofs.Validity.{empty_valid}
use Rattle.aas_step.proofs.no_documents_are_valid.Goals as goal

pub returns : goal.returns
returns c = empty_valid
