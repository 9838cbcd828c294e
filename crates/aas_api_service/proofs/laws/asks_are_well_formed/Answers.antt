use Rattle.aas_api_service.proofs.WellFormed.{asks_well_formed}
use Rattle.aas_api_service.proofs.laws.asks_are_well_formed.Goals as goal

pub returns : goal.returns
returns c = asks_well_formed
