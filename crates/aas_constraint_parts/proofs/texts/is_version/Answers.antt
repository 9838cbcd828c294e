use Rattle.aas_lexical.specs.Names.{version}
use Rattle.aas_constraint_rules.specs.Decided.{is_version}
use Rattle.aas_constraint_rules.proofs.Forms.{version_tells}
use Rattle.aas_constraint_parts.proofs.Told.{told}
use Rattle.aas_constraint_parts.proofs.texts.is_version.Goals as goal

pub returns : goal.returns
returns c = told version c.args.text.now c.as_str.result.now c.is_version.result (is_version c.args.text.now) c.as_str.ensures.bytes c.is_version.ensures (version_tells c.args.text.now)
