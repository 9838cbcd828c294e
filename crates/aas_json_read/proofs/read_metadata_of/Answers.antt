use Rattle.aas_json_table.specs.TooDeep.{limits}
use Rattle.aas_json_mapping.specs.Metadata.{IsSubmodelMetadata, submodel_metadata_forms}
use Rattle.aas_json_mapping.proofs.MetadataLaws.{submodel_metadata_laws}
use Rattle.aas_json_read.proofs.Reading.{reads_shaped, reads_each_shaped}
use Rattle.aas_json_read.proofs.read_metadata_of.Goals as goal

pub returns-clause-reads : goal.returns-clause-reads
returns-clause-reads c = reads_shaped submodel_metadata_forms IsSubmodelMetadata submodel_metadata_laws limits c.read_shaped.result c.args.bytes.now c.read_shaped.ensures

pub returns-clause-each : goal.returns-clause-each
returns-clause-each c = reads_each_shaped submodel_metadata_forms IsSubmodelMetadata submodel_metadata_laws limits c.read_shaped.result c.args.bytes.now c.read_shaped.ensures
