use Rattle.aas_constraint_rules.proofs.Forms.{identifier_tells}
use Rattle.aas_constraint_rules.proofs.laws.identifiers_are_told.Goals as goal

pub returns : goal.returns
returns c = identifier_tells
