use Rattle.aas_value_update.proofs.WholeSubmodel.{update_stays_whole}
use Rattle.aas_value_update.proofs.updates_stay_whole.Goals as goal

pub returns : goal.returns
returns c = update_stays_whole
