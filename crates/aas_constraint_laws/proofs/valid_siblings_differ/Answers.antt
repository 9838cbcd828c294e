use Rattle.aas_constraint_laws.proofs.Siblings.{siblings_differ}
use Rattle.aas_constraint_laws.proofs.valid_siblings_differ.Goals as goal

pub returns : goal.returns
returns c = siblings_differ
