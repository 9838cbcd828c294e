use Rattle.aas_value_update.proofs.Unchanged as law
use Rattle.aas_value_update.proofs.no_members_change_nothing.Goals as goal

pub returns : goal.returns
returns c = law.no_members_change_nothing
