use Rattle.aas_api_service.proofs.WellDescribed.{described_well}
use Rattle.aas_api_service.proofs.laws.metadata_is_put_by_well_formed_commands.Goals as goal

pub returns : goal.returns
returns c = described_well c.put_stays_whole.ensures
