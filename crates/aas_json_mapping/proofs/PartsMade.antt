-- What is found under the rows of a part makes one.
use Rattle.std.proofs.Common.{◌≡◌, ℕ, List, true, Option, Some, is_some, codes, refl}
use Rattle.serde_json.specs.Data.{Data, string}
use Rattle.aas_model_names.specs.AssetKindNames as asset_kind
use Rattle.aas_model_names.specs.QualifierKindNames as qualifier_kind
use Rattle.aas_model_names.specs.ValueTypeNames as value_type
use Rattle.aas_json_table.specs.Table.{reference, lang_text, extension, qualifier, specific_asset_id, administration, asset_information, resource, MemberType, text, one, many, kept, parts, has_semantics, referable}
use Rattle.aas_json_table.specs.Canonical.{are_there}
use Rattle.aas_json_table.specs.Spelled.{attribute}
use Rattle.aas_model.specs.declared.reference.Semantics.{Semantics}
use Rattle.aas_model.specs.declared.parts.LangText.{LangText}
use Rattle.aas_model.specs.declared.parts.Extension.{Extension}
use Rattle.aas_model.specs.declared.parts.Qualifier.{Qualifier}
use Rattle.aas_model.specs.declared.parts.SpecificAssetId.{SpecificAssetId}
use Rattle.aas_model.specs.declared.parts.Administration.{Administration}
use Rattle.aas_model.specs.declared.asset.Resource.{Resource}
use Rattle.aas_model.specs.declared.asset.AssetInformation.{AssetInformation}
use Rattle.aas_lemmas.proofs.Truth.{and_left, and_right}
use Rattle.aas_json_spelling.proofs.Objects.{Agree}
use Rattle.aas_json_spelling.proofs.Exists.{Gives}
use Rattle.aas_json_mapping.specs.Parts.{semantics_attributes, spell_lang_text, lang_text_attributes, spell_extension, extension_attributes, spell_qualifier, qualifier_attributes, spell_specific_asset_id, specific_asset_id_attributes, spell_administration, administration_attributes, spell_resource, resource_attributes, spell_asset_information, asset_information_attributes}
use Rattle.aas_json_mapping.proofs.Rows.{Made}
use Rattle.aas_json_mapping.proofs.Referable.{Referable, referable_attributes}
use Rattle.aas_json_mapping.proofs.Sorts.{trees, text_there, word_if, word_there}

module _ (g : List ℕ → MemberType → Option Data) (each : Gives trees g) where
  -- ---- what several classes have

  pub semantics_found : (s : Semantics) × Agree has_semantics g (attribute (semantics_attributes s))
  semantics_found =
      let i = each (codes "semanticId") (one reference) in
      let s = each (codes "supplementalSemanticIds") (many reference) in
      (record { semantic_id = i.0; supplemental_semantic_ids = s.0 }, (i.1, (s.1, tt)))

  pub referable_found : (model_type : List ℕ) → g (codes "modelType") text ≡ Some (string model_type)
      → (x : Referable) × Agree referable g (attribute (referable_attributes model_type x))
  referable_found model_type is =
      let c = each (codes "category") text in
      let d = each (codes "description") (many lang_text) in
      let n = each (codes "displayName") (many lang_text) in
      let e = each (codes "extensions") (many extension) in
      let i = each (codes "idShort") text in
      let k = each (codes "embeddedDataSpecifications") kept in (
        record {
          category = c.0;
          description = d.0;
          display_name = n.0;
          extensions = e.0;
          id_short = i.0;
          embedded_data_specifications = k.0;
        },
        (c.1, (d.1, (n.1, (e.1, (i.1, (is, (k.1, tt))))))),
      )

  -- ---- parts

  pub lang_text_made : are_there (parts lang_text) g ≡ true → Made spell_lang_text (parts lang_text) g
  lang_text_made e =
      let l = text_there g each (codes "language") (and_left _ _ e) in
      let t = text_there g each (codes "text") (and_left _ _ (and_right (is_some (g (codes "language") text)) _ e)) in
      let x : LangText = record { language = l.0; text = t.0 } in
      record { tree = x; attributes = lang_text_attributes x; agree = (l.1, (t.1, tt)); spells = refl }

  pub extension_made : are_there (parts extension) g ≡ true → Made spell_extension (parts extension) g
  extension_made e =
      let n = text_there g each (codes "name") (and_left _ _ e) in
      let t = word_if g each value_type.name_of value_type.all (codes "valueType") in
      let v = each (codes "value") text in
      let r = each (codes "refersTo") (many reference) in
      let s = semantics_found in
      let x : Extension = record { name = n.0; value_type = t.0; value = v.0; refers_to = r.0; semantics = s.0 } in
      record { tree = x; attributes = extension_attributes x; agree = (n.1, (t.1, (v.1, (r.1, s.1)))); spells = refl }

  pub qualifier_made : are_there (parts qualifier) g ≡ true → Made spell_qualifier (parts qualifier) g
  qualifier_made e =
      let k = word_if g each qualifier_kind.name_of qualifier_kind.all (codes "kind") in
      let t = text_there g each (codes "type") (and_left _ _ e) in
      let later = and_right (is_some (g (codes "type") text)) _ e in
      let y = word_there g each value_type.name_of value_type.all (codes "valueType") (and_left _ _ later) in
      let v = each (codes "value") text in
      let r = each (codes "valueId") (one reference) in
      let s = semantics_found in
      let x : Qualifier = record {
        kind = k.0;
        qualifier_type = t.0;
        value_type = y.0;
        value = v.0;
        value_id = r.0;
        semantics = s.0;
      } in
      record {
        tree = x;
        attributes = qualifier_attributes x;
        agree = (k.1, (t.1, (y.1, (v.1, (r.1, s.1)))));
        spells = refl;
      }

  pub specific_asset_id_made : are_there (parts specific_asset_id) g ≡ true
      → Made spell_specific_asset_id (parts specific_asset_id) g
  specific_asset_id_made e =
      let n = text_there g each (codes "name") (and_left _ _ e) in
      let v = text_there g each (codes "value") (and_left _ _ (and_right (is_some (g (codes "name") text)) _ e)) in
      let r = each (codes "externalSubjectId") (one reference) in
      let s = semantics_found in
      let x : SpecificAssetId = record { name = n.0; value = v.0; external_subject_id = r.0; semantics = s.0 } in
      record {
        tree = x;
        attributes = specific_asset_id_attributes x;
        agree = (n.1, (v.1, (r.1, s.1)));
        spells = refl;
      }

  pub administration_made : are_there (parts administration) g ≡ true → Made spell_administration (parts administration) g
  administration_made e =
      let v = each (codes "version") text in
      let r = each (codes "revision") text in
      let c = each (codes "creator") (one reference) in
      let t = each (codes "templateId") text in
      let k = each (codes "embeddedDataSpecifications") kept in
      let x : Administration = record {
        version = v.0;
        revision = r.0;
        creator = c.0;
        template_id = t.0;
        embedded_data_specifications = k.0;
      } in
      record {
        tree = x;
        attributes = administration_attributes x;
        agree = (v.1, (r.1, (c.1, (t.1, (k.1, tt)))));
        spells = refl;
      }

  pub resource_made : are_there (parts resource) g ≡ true → Made spell_resource (parts resource) g
  resource_made e =
      let p = text_there g each (codes "path") (and_left _ _ e) in
      let t = each (codes "contentType") text in
      let x : Resource = record { path = p.0; content_type = t.0 } in
      record { tree = x; attributes = resource_attributes x; agree = (p.1, (t.1, tt)); spells = refl }

  pub asset_information_made : are_there (parts asset_information) g ≡ true
      → Made spell_asset_information (parts asset_information) g
  asset_information_made e =
      let k = word_there g each asset_kind.name_of asset_kind.all (codes "assetKind") (and_left _ _ e) in
      let i = each (codes "globalAssetId") text in
      let s = each (codes "specificAssetIds") (many specific_asset_id) in
      let t = each (codes "assetType") text in
      let d = each (codes "defaultThumbnail") (one resource) in
      let x : AssetInformation = record {
        asset_kind = k.0;
        global_asset_id = i.0;
        specific_asset_ids = s.0;
        asset_type = t.0;
        default_thumbnail = d.0;
      } in
      record {
        tree = x;
        attributes = asset_information_attributes x;
        agree = (k.1, (i.1, (s.1, (t.1, (d.1, tt)))));
        spells = refl;
      }
