-- What a value of UTF-8 says as a tree of a sort is spelled by one.
use Rattle.std.proofs.Common.{refl}
use Rattle.serde_json.specs.Data.{Data, object, Members}
use Rattle.aas_json_table.specs.Table.{Sort, reference, lang_text, extension, qualifier, specific_asset_id, administration, asset_information, resource, operation_variable, environment, shell, submodel, concept, element, data_element, submodel_metadata, element_metadata, one}
use Rattle.aas_json_table.specs.Canonical.{canonical, canonical_member}
use Rattle.aas_json_spelling.specs.Values.{IsText, HasTexts}
use Rattle.aas_json_spelling.proofs.Exists.{IsSpelled, IsTree, Gives, as_itself, tree}
use Rattle.aas_reference.proofs.Exists.{some_reference}
use Rattle.aas_json_mapping.proofs.Rows.{part_made}
use Rattle.aas_json_mapping.proofs.Sorts.{trees}
use Rattle.aas_json_mapping.proofs.PartsMade as parts
use Rattle.aas_json_mapping.proofs.ElementsMade as elements
use Rattle.aas_json_mapping.proofs.MetadataFound as forms
use Rattle.aas_json_mapping.proofs.DocumentsMade as documents

builds : (s : Sort) (ms : Members) → HasTexts ms → Gives trees (canonical_member ms)
    → IsTree trees (one s) (canonical (one s) (object ms))
builds reference ms u each = some_reference (object ms) u
builds lang_text ms u each = part_made (trees.spell lang_text) lang_text ms refl (parts.lang_text_made (canonical_member ms) each)
builds extension ms u each = part_made (trees.spell extension) extension ms refl (parts.extension_made (canonical_member ms) each)
builds qualifier ms u each = part_made (trees.spell qualifier) qualifier ms refl (parts.qualifier_made (canonical_member ms) each)
builds specific_asset_id ms u each =
    part_made (trees.spell specific_asset_id) specific_asset_id ms refl (parts.specific_asset_id_made (canonical_member ms) each)
builds administration ms u each =
    part_made (trees.spell administration) administration ms refl (parts.administration_made (canonical_member ms) each)
builds resource ms u each = part_made (trees.spell resource) resource ms refl (parts.resource_made (canonical_member ms) each)
builds asset_information ms u each =
    part_made (trees.spell asset_information) asset_information ms refl (parts.asset_information_made (canonical_member ms) each)
builds operation_variable ms u each =
    part_made (trees.spell operation_variable) operation_variable ms refl (elements.variable_made (canonical_member ms) each)
builds element ms u each = elements.element_tree ms each
builds data_element ms u each = elements.data_tree ms each
builds element_metadata ms u each = forms.form_tree ms each
builds shell ms u each = documents.shell_tree ms each
builds submodel ms u each = documents.submodel_tree ms each
builds submodel_metadata ms u each = documents.form_tree ms each
builds concept ms u each = documents.concept_tree ms each
builds environment ms u each = part_made (trees.spell environment) environment ms refl (documents.environment_made (canonical_member ms) each)
builds s ms u each = as_itself (canonical (one s) (object ms))

pub found : (s : Sort) (j : Data) → IsText j → IsSpelled (trees.spell s) (canonical (one s) j)
found s j u = tree trees builds j (one s) u
