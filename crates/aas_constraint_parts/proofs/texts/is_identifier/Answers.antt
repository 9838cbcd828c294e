use Rattle.aas_lexical.specs.Names.{IsIdentifier}
use Rattle.aas_constraint_rules.specs.Decided.{is_identifier}
use Rattle.aas_constraint_rules.proofs.Forms.{identifier_tells}
use Rattle.aas_constraint_parts.proofs.Told.{told_by_characters}
use Rattle.aas_constraint_parts.proofs.texts.is_identifier.Goals as goal

pub returns : goal.returns
returns c = told_by_characters IsIdentifier c.args.text.now c.as_str.result.now c.is_identifier.result (is_identifier c.args.text.now) c.as_str.ensures.characters c.is_identifier.ensures (identifier_tells c.args.text.now)
