use Rattle.aas_meta_update.proofs.OnlyThere.{only_metadata_changes}
use Rattle.aas_meta_update.proofs.laws.only_metadata_changes.Goals as goal

pub returns : goal.returns
returns c = only_metadata_changes
