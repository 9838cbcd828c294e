use Rattle.std.specs.Str.{encode_utf8_all}
use Rattle.aas_constraint_rules.proofs.Forms.{form_tells}
use Rattle.aas_constraint_rules.proofs.laws.forms_are_told.Goals as goal

pub returns : goal.returns
returns c = λ t s. form_tells t (encode_utf8_all s)
