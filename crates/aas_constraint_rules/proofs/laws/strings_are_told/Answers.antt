use Rattle.aas_constraint_rules.proofs.Forms.{string_tells}
use Rattle.aas_constraint_rules.proofs.laws.strings_are_told.Goals as goal

pub returns : goal.returns
returns c = string_tells
