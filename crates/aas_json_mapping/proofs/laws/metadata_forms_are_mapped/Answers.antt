use Rattle.aas_json_spelling.proofs.Laws.{mapped}
use Rattle.aas_json_mapping.specs.Metadata.{IsMetadata, metadata_forms}
use Rattle.aas_json_mapping.proofs.MetadataLaws.{metadata_laws}
use Rattle.aas_json_mapping.proofs.laws.metadata_forms_are_mapped.Goals as goal

pub returns : goal.returns
returns c = mapped metadata_forms IsMetadata metadata_laws
