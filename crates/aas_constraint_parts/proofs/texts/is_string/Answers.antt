use Rattle.aas_lexical.specs.Names.{IsString}
use Rattle.aas_constraint_rules.specs.Decided.{is_string}
use Rattle.aas_constraint_rules.proofs.Forms.{string_tells}
use Rattle.aas_constraint_parts.proofs.Told.{told_by_characters}
use Rattle.aas_constraint_parts.proofs.texts.is_string.Goals as goal

pub returns : goal.returns
returns c = told_by_characters IsString c.args.text.now c.as_str.result.now c.is_string.result (is_string c.args.text.now) c.as_str.ensures.characters c.is_string.ensures (string_tells c.args.text.now)
