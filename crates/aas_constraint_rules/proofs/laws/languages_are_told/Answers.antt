use Rattle.aas_constraint_rules.proofs.Forms.{language_tells}
use Rattle.aas_constraint_rules.proofs.laws.languages_are_told.Goals as goal

pub returns : goal.returns
returns c = language_tells
