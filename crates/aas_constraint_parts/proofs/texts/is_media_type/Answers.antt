use Rattle.aas_lexical.specs.Media.{media_type}
use Rattle.aas_constraint_rules.specs.Decided.{is_media_type}
use Rattle.aas_constraint_rules.proofs.Forms.{media_type_tells}
use Rattle.aas_constraint_parts.proofs.Told.{told}
use Rattle.aas_constraint_parts.proofs.texts.is_media_type.Goals as goal

pub returns : goal.returns
returns c = told media_type c.args.text.now c.as_str.result.now c.is_media_type.result (is_media_type c.args.text.now) c.as_str.ensures.bytes c.is_media_type.ensures (media_type_tells c.args.text.now)
