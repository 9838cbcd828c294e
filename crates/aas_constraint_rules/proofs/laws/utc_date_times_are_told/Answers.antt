use Rattle.aas_constraint_rules.proofs.Forms.{utc_date_time_tells}
use Rattle.aas_constraint_rules.proofs.laws.utc_date_times_are_told.Goals as goal

pub returns : goal.returns
returns c = utc_date_time_tells
