-- The laws of the parts that are read by themselves.
use Rattle.aas_json_table.specs.Table.{asset_information}
use Rattle.aas_json_spelling.specs.Mapped.{AnyShape}
use Rattle.aas_json_spelling.proofs.Laws.{Laws}
use Rattle.aas_json_mapping.specs.Trees.{specific_asset_ids, asset_informations}
use Rattle.aas_json_mapping.proofs.Facts.{laws_of}
use Rattle.aas_json_mapping.proofs.Parts.{specific_asset_id_facts, asset_information_facts}
use Rattle.aas_json_mapping.proofs.Found.{found}
use Rattle.aas_json_mapping.proofs.PartsFound.{some_specific_asset_id}

pub specific_asset_ids_laws : Laws specific_asset_ids AnyShape
specific_asset_ids_laws = laws_of specific_asset_id_facts some_specific_asset_id

pub asset_informations_laws : Laws asset_informations AnyShape
asset_informations_laws = laws_of asset_information_facts (found asset_information)
