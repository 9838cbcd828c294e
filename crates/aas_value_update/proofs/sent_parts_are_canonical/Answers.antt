use Rattle.aas_value_update.proofs.Canonical as law
use Rattle.aas_value_update.proofs.sent_parts_are_canonical.Goals as goal

pub returns : goal.returns
returns c = law.says_itself
