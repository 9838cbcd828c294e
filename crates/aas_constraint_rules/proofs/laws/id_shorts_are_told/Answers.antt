use Rattle.aas_constraint_rules.proofs.Forms.{id_short_tells}
use Rattle.aas_constraint_rules.proofs.laws.id_shorts_are_told.Goals as goal

pub returns : goal.returns
returns c = id_short_tells
