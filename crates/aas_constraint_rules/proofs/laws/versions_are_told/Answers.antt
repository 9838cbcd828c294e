use Rattle.aas_constraint_rules.proofs.Forms.{version_tells}
use Rattle.aas_constraint_rules.proofs.laws.versions_are_told.Goals as goal

pub returns : goal.returns
returns c = version_tells
