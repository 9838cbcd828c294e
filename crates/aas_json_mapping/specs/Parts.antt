-- How the parts of documents and elements are spelled in JSON: one line an attribute (IDTA-01001-3-0, the class that each comment names).
use Rattle.std.specs.Prelude.{[], ◌∷◌, codes, Some, option_map}
use Rattle.serde_json.specs.Data.{Data, string}
use Rattle.aas_model_names.specs.AssetKindNames as asset_kind
use Rattle.aas_model_names.specs.QualifierKindNames as qualifier_kind
use Rattle.aas_model_names.specs.ValueTypeNames as value_type
use Rattle.aas_json_table.specs.Table.{parts, lang_text, extension, qualifier, specific_asset_id, administration, asset_information, resource}
use Rattle.aas_json_table.specs.Spelled.{Attributes, spelled, text_of, list_of}
use Rattle.aas_json_spelling.specs.Kept.{spell_plain}
use Rattle.aas_reference.specs.Spelling.{spell_reference}
use Rattle.aas_model.specs.declared.reference.Semantics.{Semantics}
use Rattle.aas_model.specs.declared.parts.LangText.{LangText}
use Rattle.aas_model.specs.declared.parts.Extension.{Extension}
use Rattle.aas_model.specs.declared.parts.Qualifier.{Qualifier}
use Rattle.aas_model.specs.declared.parts.SpecificAssetId.{SpecificAssetId}
use Rattle.aas_model.specs.declared.parts.Administration.{Administration}
use Rattle.aas_model.specs.declared.asset.Resource.{Resource}
use Rattle.aas_model.specs.declared.asset.AssetInformation.{AssetInformation}

-- HasSemantics
abbrev pub semantics_attributes : Semantics → Attributes
semantics_attributes s =
    (codes "semanticId", option_map spell_reference s.semantic_id)
    ∷ (codes "supplementalSemanticIds", list_of spell_reference s.supplemental_semantic_ids)
    ∷ []

-- AbstractLangString and its subclasses
abbrev pub lang_text_attributes : LangText → Attributes
lang_text_attributes l =
    (codes "language", Some (text_of l.language))
    ∷ (codes "text", Some (text_of l.text))
    ∷ []

abbrev pub spell_lang_text : LangText → Data
spell_lang_text l = spelled (parts lang_text) (lang_text_attributes l)

-- Extension
abbrev pub extension_attributes : Extension → Attributes
extension_attributes e =
    (codes "name", Some (text_of e.name))
    ∷ (codes "valueType", option_map (λ t. string (value_type.name_of t)) e.value_type)
    ∷ (codes "value", option_map text_of e.value)
    ∷ (codes "refersTo", list_of spell_reference e.refers_to)
    ∷ semantics_attributes e.semantics

abbrev pub spell_extension : Extension → Data
spell_extension e = spelled (parts extension) (extension_attributes e)

-- Qualifier
abbrev pub qualifier_attributes : Qualifier → Attributes
qualifier_attributes q =
    (codes "kind", option_map (λ k. string (qualifier_kind.name_of k)) q.kind)
    ∷ (codes "type", Some (text_of q.qualifier_type))
    ∷ (codes "valueType", Some (string (value_type.name_of q.value_type)))
    ∷ (codes "value", option_map text_of q.value)
    ∷ (codes "valueId", option_map spell_reference q.value_id)
    ∷ semantics_attributes q.semantics

abbrev pub spell_qualifier : Qualifier → Data
spell_qualifier q = spelled (parts qualifier) (qualifier_attributes q)

-- SpecificAssetId
abbrev pub specific_asset_id_attributes : SpecificAssetId → Attributes
specific_asset_id_attributes a =
    (codes "name", Some (text_of a.name))
    ∷ (codes "value", Some (text_of a.value))
    ∷ (codes "externalSubjectId", option_map spell_reference a.external_subject_id)
    ∷ semantics_attributes a.semantics

abbrev pub spell_specific_asset_id : SpecificAssetId → Data
spell_specific_asset_id a = spelled (parts specific_asset_id) (specific_asset_id_attributes a)

-- AdministrativeInformation
abbrev pub administration_attributes : Administration → Attributes
administration_attributes a =
    (codes "version", option_map text_of a.version)
    ∷ (codes "revision", option_map text_of a.revision)
    ∷ (codes "creator", option_map spell_reference a.creator)
    ∷ (codes "templateId", option_map text_of a.template_id)
    ∷ (codes "embeddedDataSpecifications", list_of spell_plain a.embedded_data_specifications)
    ∷ []

abbrev pub spell_administration : Administration → Data
spell_administration a = spelled (parts administration) (administration_attributes a)

-- Resource
abbrev pub resource_attributes : Resource → Attributes
resource_attributes r =
    (codes "path", Some (text_of r.path))
    ∷ (codes "contentType", option_map text_of r.content_type)
    ∷ []

abbrev pub spell_resource : Resource → Data
spell_resource r = spelled (parts resource) (resource_attributes r)

-- AssetInformation
abbrev pub asset_information_attributes : AssetInformation → Attributes
asset_information_attributes a =
    (codes "assetKind", Some (string (asset_kind.name_of a.asset_kind)))
    ∷ (codes "globalAssetId", option_map text_of a.global_asset_id)
    ∷ (codes "specificAssetIds", list_of spell_specific_asset_id a.specific_asset_ids)
    ∷ (codes "assetType", option_map text_of a.asset_type)
    ∷ (codes "defaultThumbnail", option_map spell_resource a.default_thumbnail)
    ∷ []

abbrev pub spell_asset_information : AssetInformation → Data
spell_asset_information a = spelled (parts asset_information) (asset_information_attributes a)
