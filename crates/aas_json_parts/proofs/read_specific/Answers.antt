use Rattle.serde_json.specs.View.{view}
use Rattle.aas_json_table.specs.TooDeep.{limits}
use Rattle.aas_json_mapping.specs.Trees.{specific_asset_ids}
use Rattle.aas_json_spelling.specs.Mapped.{AnyShape}
use Rattle.aas_json_mapping.proofs.PartsLaws.{specific_asset_ids_laws}
use Rattle.aas_json_spelling.proofs.Laws.{reads_each}
use Rattle.aas_json_parts.proofs.Specific.{reads_specific}
use Rattle.aas_json_parts.proofs.read_specific.Goals as goal

pub returns-clause-reads : goal.returns-clause-reads
returns-clause-reads c = reads_specific limits c.read_part.result (view c.args.value.now) c.read_part.ensures

pub returns-clause-each : goal.returns-clause-each
returns-clause-each c =
    reads_each specific_asset_ids AnyShape specific_asset_ids_laws limits c.read_part.result (view c.args.value.now) (returns-clause-reads c)
