-- The lexical rules, which have number 0: each text of an attribute is of its form. The lengths of identifiers and idShorts are this profile's own rule.
use Rattle.std.specs.Prelude.{ℕ, Bool, true, not, ◌&&◌, nat_le, ◌==◌, List, length, unwrap_or}
use Rattle.std.specs.List.{list_all}
use Rattle.aas_lexical.specs.Names.{most_name_characters}
use Rattle.aas_constraint_rules.specs.Decided.{has_form, is_identifier, is_language, is_version, is_media_type, is_utc_date_time}
use Rattle.aas_model_names.specs.declared.value_type.ValueType.TheVariants as value_type
use Rattle.aas_reference.specs.Rules.{if_any, levels_of}
use Rattle.aas_model.specs.declared.parts.Extension.{Extension}
use Rattle.aas_model.specs.declared.parts.Qualifier.{Qualifier}
use Rattle.aas_model.specs.declared.parts.SpecificAssetId.{SpecificAssetId}
use Rattle.aas_model.specs.declared.parts.Administration.{Administration}
use Rattle.aas_model.specs.declared.asset.Resource.{Resource}
use Rattle.aas_model.specs.declared.asset.AssetInformation.{AssetInformation}
use Rattle.aas_model.specs.declared.reference.Reference.{Reference}
use Rattle.aas_model.specs.declared.common.Head.{Head}
use Rattle.aas_model.specs.declared.payload.Payload.{Payload}
use Rattle.aas_model.specs.declared.payload.Payload.TheVariants as p
use Rattle.aas_constraint_rules.specs.Attributes.{Seen}

abbrev pub is_there : List ℕ → Bool
is_there s = not (length s == 0)

-- ---- parts

-- the values of the keys of a reference and of those within it are identifiers
abbrev pub reference_has_form : Reference → Bool
reference_has_form r = list_all (λ x. list_all (λ k. is_identifier k.value) x.keys) (levels_of r)

-- an Extension without a valueType has xs:string
abbrev pub extension_has_form : Extension → Bool
extension_has_form e = is_there e.name && if_any (has_form (unwrap_or e.value_type value_type.String)) e.value

abbrev pub qualifier_has_form : Qualifier → Bool
qualifier_has_form q = is_there q.qualifier_type

abbrev pub specific_asset_id_has_form : SpecificAssetId → Bool
specific_asset_id_has_form a = is_there a.name && is_identifier a.value

abbrev pub administration_has_form : Administration → Bool
administration_has_form a =
    if_any is_version a.version
    && if_any is_version a.revision
    && if_any is_identifier a.template_id

abbrev pub resource_has_form : Resource → Bool
resource_has_form r = if_any is_media_type r.content_type

-- ---- of any document or element, but for its references

abbrev pub seen_has_form : Seen → Bool
seen_has_form x =
    if_any (λ s. nat_le (length s) most_name_characters) x.id_short
    && list_all extension_has_form x.extensions
    && list_all qualifier_has_form x.qualifiers
    && list_all specific_asset_id_has_form x.specific_asset_ids
    && list_all (λ l. is_language l.language) x.lang_texts

-- ---- of a kind's own members

abbrev pub payload_has_form : Payload → Bool
payload_has_form (p.Property t v i) = if_any (has_form t) v
payload_has_form (p.Range t min max) = if_any (has_form t) min && if_any (has_form t) max
payload_has_form (p.File t v) = if_any is_media_type t
payload_has_form (p.Blob t v) = if_any is_media_type t && if_any (has_form value_type.Base64Binary) v
payload_has_form (p.Entity t g ids) = if_any is_identifier g
payload_has_form (p.BasicEventElement observed d s topic broker last min max) =
    if_any is_utc_date_time last && if_any (has_form value_type.Duration) min && if_any (has_form value_type.Duration) max
payload_has_form _ = true

-- ---- of a document's own members

abbrev pub head_has_form : Head → Bool
head_has_form h = is_identifier h.id && if_any administration_has_form h.administration

abbrev pub asset_has_form : AssetInformation → Bool
asset_has_form a = if_any is_identifier a.global_asset_id && if_any is_identifier a.asset_type && if_any resource_has_form a.default_thumbnail
