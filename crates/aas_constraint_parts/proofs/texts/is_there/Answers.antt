use Rattle.aas_constraint_parts.proofs.Told.{no_bytes}
use Rattle.aas_constraint_parts.proofs.texts.is_there.Goals as goal

pub returns : goal.returns
returns c = no_bytes c.args.text.now c.as_str.result.now c.is_empty.result c.as_str.ensures.bytes c.as_str.ensures.characters c.is_empty.ensures
