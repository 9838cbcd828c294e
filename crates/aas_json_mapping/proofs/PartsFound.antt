-- What a value says as a part that is read by itself is spelled by one.
use Rattle.serde_json.specs.Data.{Data}
use Rattle.aas_json_table.specs.Table.{one, specific_asset_id}
use Rattle.aas_json_table.specs.Canonical.{canonical}
use Rattle.aas_json_spelling.specs.Values.{IsText}
use Rattle.aas_json_spelling.proofs.Exists.{IsSpelled}
use Rattle.aas_json_mapping.specs.Parts.{spell_specific_asset_id}
use Rattle.aas_json_mapping.proofs.Found.{found}

pub some_specific_asset_id : (j : Data) → IsText j → IsSpelled spell_specific_asset_id (canonical (one specific_asset_id) j)
some_specific_asset_id j u = found specific_asset_id j u
