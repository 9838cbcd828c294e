use Rattle.aas_lexical.specs.Times.{utc_date_time}
use Rattle.aas_constraint_rules.specs.Decided.{is_utc_date_time}
use Rattle.aas_constraint_rules.proofs.Forms.{utc_date_time_tells}
use Rattle.aas_constraint_parts.proofs.Told.{told}
use Rattle.aas_constraint_parts.proofs.texts.is_utc_date_time.Goals as goal

pub returns : goal.returns
returns c = told utc_date_time c.args.text.now c.as_str.result.now c.is_utc_date_time.result (is_utc_date_time c.args.text.now) c.as_str.ensures.bytes c.is_utc_date_time.ensures (utc_date_time_tells c.args.text.now)
