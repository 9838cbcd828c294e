use Rattle.aas_constraint_laws.proofs.StaysWhole.{valid_after_change}
use Rattle.aas_constraint_laws.proofs.valid_after_change.Goals as goal

pub returns : goal.returns
returns c = valid_after_change
