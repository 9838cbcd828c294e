use Rattle.aas_json_spelling.specs.Mapped.{AnyShape}
use Rattle.aas_json_spelling.proofs.Laws.{mapped}
use Rattle.aas_json_mapping.specs.Trees.{specific_asset_ids}
use Rattle.aas_json_mapping.proofs.PartsLaws.{specific_asset_ids_laws}
use Rattle.aas_json_mapping.proofs.laws.specific_asset_ids_are_mapped.Goals as goal

pub returns : goal.returns
returns c = mapped specific_asset_ids AnyShape specific_asset_ids_laws
