-- The laws of metadata forms: the five facts from which all others follow.
use Rattle.aas_json_table.specs.Table.{element_metadata, submodel_metadata}
use Rattle.aas_json_mapping.specs.Metadata.{IsMetadata, IsSubmodelMetadata, metadata_forms, submodel_metadata_forms}
use Rattle.aas_json_spelling.proofs.Laws.{Laws}
use Rattle.aas_json_mapping.proofs.Documents as documents
use Rattle.aas_json_mapping.proofs.Metadata.{form_good, form_back, same_form}
use Rattle.aas_json_mapping.proofs.Found.{found}

pub metadata_laws : Laws metadata_forms IsMetadata
metadata_laws = record { shaped = λ l e w. w.shape; good = form_good; back = form_back; same = same_form; found = found element_metadata }

pub submodel_metadata_laws : Laws submodel_metadata_forms IsSubmodelMetadata
submodel_metadata_laws = record {
  shaped = λ l s w. w.shape;
  good = λ l s w. documents.form_good l s w.shape w.whole;
  back = λ l s none good. record { shape = none; whole = documents.form_back l s none good };
  same = documents.same_forms;
  found = found submodel_metadata;
}
