use Rattle.aas_lexical.specs.Names.{language}
use Rattle.aas_constraint_rules.specs.Decided.{is_language}
use Rattle.aas_constraint_rules.proofs.Forms.{language_tells}
use Rattle.aas_constraint_parts.proofs.Told.{told}
use Rattle.aas_constraint_parts.proofs.texts.is_language.Goals as goal

pub returns : goal.returns
returns c = told language c.args.text.now c.as_str.result.now c.is_language.result (is_language c.args.text.now) c.as_str.ensures.bytes c.is_language.ensures (language_tells c.args.text.now)
