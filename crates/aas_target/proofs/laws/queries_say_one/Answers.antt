use Rattle.aas_target.proofs.Once.{one}
use Rattle.aas_target.proofs.laws.queries_say_one.Goals as goal

pub returns : goal.returns
returns c = one c.references_are_mapped.ensures c.specific_asset_ids_are_mapped.ensures
