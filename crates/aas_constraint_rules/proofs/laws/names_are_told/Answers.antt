use Rattle.aas_constraint_rules.proofs.Forms.{name_tells}
use Rattle.aas_constraint_rules.proofs.laws.names_are_told.Goals as goal

pub returns : goal.returns
returns c = name_tells
