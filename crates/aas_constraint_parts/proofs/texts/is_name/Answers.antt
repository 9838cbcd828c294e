use Rattle.aas_lexical.specs.Names.{name}
use Rattle.aas_constraint_rules.specs.Decided.{is_name}
use Rattle.aas_constraint_rules.proofs.Forms.{name_tells}
use Rattle.aas_constraint_parts.proofs.Told.{told}
use Rattle.aas_constraint_parts.proofs.texts.is_name.Goals as goal

pub returns : goal.returns
returns c = told name c.args.text.now c.as_str.result.now c.is_name.result (is_name c.args.text.now) c.as_str.ensures.bytes c.is_name.ensures (name_tells c.args.text.now)
