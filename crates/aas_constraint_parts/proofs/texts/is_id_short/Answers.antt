use Rattle.aas_lexical.specs.Names.{id_short}
use Rattle.aas_constraint_rules.specs.Decided.{is_id_short}
use Rattle.aas_constraint_rules.proofs.Forms.{id_short_tells}
use Rattle.aas_constraint_parts.proofs.Told.{told}
use Rattle.aas_constraint_parts.proofs.texts.is_id_short.Goals as goal

pub returns : goal.returns
returns c = told id_short c.args.text.now c.as_str.result.now c.is_id_short.result (is_id_short c.args.text.now) c.as_str.ensures.bytes c.is_id_short.ensures (id_short_tells c.args.text.now)
