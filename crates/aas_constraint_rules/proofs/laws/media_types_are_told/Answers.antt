use Rattle.aas_constraint_rules.proofs.Forms.{media_type_tells}
use Rattle.aas_constraint_rules.proofs.laws.media_types_are_told.Goals as goal

pub returns : goal.returns
returns c = media_type_tells
