use Rattle.aas_json_spelling.specs.Mapped.{AnyShape}
use Rattle.aas_json_spelling.proofs.Laws.{mapped}
use Rattle.aas_json_mapping.specs.Trees.{asset_informations}
use Rattle.aas_json_mapping.proofs.PartsLaws.{asset_informations_laws}
use Rattle.aas_json_mapping.proofs.laws.asset_information_is_mapped.Goals as goal

pub returns : goal.returns
returns c = mapped asset_informations AnyShape asset_informations_laws
