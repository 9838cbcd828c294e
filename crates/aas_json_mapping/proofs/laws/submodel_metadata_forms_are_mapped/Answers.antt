use Rattle.aas_json_spelling.proofs.Laws.{mapped}
use Rattle.aas_json_mapping.specs.Metadata.{IsSubmodelMetadata, submodel_metadata_forms}
use Rattle.aas_json_mapping.proofs.MetadataLaws.{submodel_metadata_laws}
use Rattle.aas_json_mapping.proofs.laws.submodel_metadata_forms_are_mapped.Goals as goal

pub returns : goal.returns
returns c = mapped submodel_metadata_forms IsSubmodelMetadata submodel_metadata_laws
