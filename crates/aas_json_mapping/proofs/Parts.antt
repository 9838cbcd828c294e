-- Parts of documents and elements: what is whole spells what is good, what spells what is good is whole, and what spells the same is the same.
use Rattle.std.proofs.Common.{◌≡◌, List, [], ◌∷◌, Bool, true, Option, Some, None, option_map, refl}
use Rattle.std.proofs.lemmas.Bool.{and_from}
use Rattle.std.specs.List.{list_all}
use Rattle.aas_model_names.specs.AssetKindNames as asset_kind
use Rattle.aas_model_names.specs.QualifierKindNames as qualifier_kind
use Rattle.aas_model_names.specs.ValueTypeNames as value_type
use Rattle.aas_json_table.specs.Table.{one, many, parts, has_semantics, lang_text, extension, qualifier, specific_asset_id, administration, asset_information, resource}
use Rattle.aas_json_table.specs.TooDeep.{Levels}
use Rattle.aas_json_table.specs.Spelled.{attribute, list_of}
use Rattle.aas_model.specs.declared.reference.Semantics.{Semantics}
use Rattle.aas_model.specs.declared.parts.LangText.{LangText}
use Rattle.aas_model.specs.declared.parts.Extension.{Extension}
use Rattle.aas_model.specs.declared.parts.Qualifier.{Qualifier}
use Rattle.aas_model.specs.declared.parts.SpecificAssetId.{SpecificAssetId}
use Rattle.aas_model.specs.declared.parts.Administration.{Administration}
use Rattle.aas_model.specs.declared.asset.Resource.{Resource}
use Rattle.aas_model.specs.declared.asset.AssetInformation.{AssetInformation}
use Rattle.aas_json_spelling.specs.Good.{Good}
use Rattle.aas_lemmas.proofs.Truth.{and_left, and_right}
use Rattle.aas_json_spelling.proofs.Objects.{Agree, AreGood}
use Rattle.aas_json_spelling.proofs.MemberTypes.{text_good, named_good, named_if_good, none_good, same_texts, same_texts_if, same_words, same_words_if}
use Rattle.aas_json_spelling.proofs.Kept.{same_kept}
use Rattle.aas_reference.specs.Whole.{is_whole, whole_if_there}
use Rattle.aas_json_mapping.specs.Parts.{semantics_attributes, spell_lang_text, lang_text_attributes, spell_extension, extension_attributes, spell_qualifier, qualifier_attributes, spell_specific_asset_id, specific_asset_id_attributes, spell_administration, administration_attributes, spell_resource, resource_attributes, spell_asset_information, asset_information_attributes}
use Rattle.aas_json_mapping.specs.Whole.{whole_semantics, whole_extension, whole_qualifier, whole_specific_asset_id, whole_administration, whole_asset_information, whole_administration_if_there}
use Rattle.aas_json_mapping.proofs.Facts.{Facts, all_good, all_back, all_same, if_same, part_facts, reference_facts, reference_if_good, reference_if_back, kept_good, kept_back}

-- ---- what several classes have

pub semantics_good : (l : Levels) (s : Semantics) → whole_semantics l s ≡ true → AreGood l has_semantics (attribute (semantics_attributes s))
semantics_good l s w = (
  reference_if_good l s.semantic_id (and_left (whole_if_there l s.semantic_id) _ w),
  (all_good reference_facts l s.supplemental_semantic_ids (and_right (whole_if_there l s.semantic_id) _ w), tt),
)

pub semantics_back : (l : Levels) (s : Semantics) → AreGood l has_semantics (attribute (semantics_attributes s)) → whole_semantics l s ≡ true
semantics_back l s good = and_from (whole_if_there l s.semantic_id) (list_all (is_whole l) s.supplemental_semantic_ids) (reference_if_back l s.semantic_id good.0) (all_back reference_facts l s.supplemental_semantic_ids good.1.0)

pub same_semantics : (s t : Semantics) → Agree has_semantics (attribute (semantics_attributes s)) (attribute (semantics_attributes t)) → s ≡ t
same_semantics s t agree =
    let a = if_same reference_facts s.semantic_id t.semantic_id agree.0 in
    let b = all_same reference_facts s.supplemental_semantic_ids t.supplemental_semantic_ids agree.1.0 in
    λ i. record { semantic_id = a i; supplemental_semantic_ids = b i }

-- ---- AbstractLangString

abbrev any_lang_text : Levels → LangText → Bool
any_lang_text l x = true

pub lang_text_facts : Facts lang_text spell_lang_text any_lang_text
lang_text_facts =
    part_facts lang_text lang_text_attributes any_lang_text refl (λ l. refl) (λ x. refl) refl
    (λ l x w. (text_good l (Some x.language), (text_good l (Some x.text), tt)))
    (λ l x good. refl)
    (λ x y agree.
    let a = same_texts x.language y.language agree.0 in
    let b = same_texts x.text y.text agree.1.0 in
    λ i. record { language = a i; text = b i })

all_lang_texts : (l : Levels) (xs : List LangText) → list_all (any_lang_text l) xs ≡ true
all_lang_texts l [] = refl
all_lang_texts l (x ∷ xs) = all_lang_texts l xs

pub lang_texts_good : (l : Levels) (xs : List LangText) → Good l (many lang_text) (list_of spell_lang_text xs)
lang_texts_good l xs = all_good lang_text_facts l xs (all_lang_texts l xs)

-- ---- Extension

extension_good : (l : Levels) (e : Extension) → whole_extension l e ≡ true
    → AreGood l (parts extension) (attribute (extension_attributes e))
extension_good l e w =
    let refers = list_all (is_whole l) e.refers_to in
    let name = text_good l (Some e.name) in
    let type = named_if_good l value_type.name_of value_type.all value_type.found e.value_type in
    let r = all_good reference_facts l e.refers_to (and_left refers _ w) in
    (name, (type, (text_good l e.value, (r, semantics_good l e.semantics (and_right refers _ w)))))

pub extension_facts : Facts extension spell_extension whole_extension
extension_facts =
    part_facts extension extension_attributes whole_extension refl (λ l. refl) (λ e. refl) refl extension_good
    (λ l e good.
    let refers = all_back reference_facts l e.refers_to good.1.1.1.0 in
    and_from (list_all (is_whole l) e.refers_to) _ refers (semantics_back l e.semantics good.1.1.1.1))
    (λ d e agree.
    let a = same_texts d.name e.name agree.0 in
    let t = same_words_if value_type.name_of value_type.all value_type.found d.value_type e.value_type agree.1.0 in
    let v = same_texts_if d.value e.value agree.1.1.0 in
    let r = all_same reference_facts d.refers_to e.refers_to agree.1.1.1.0 in
    let s = same_semantics d.semantics e.semantics agree.1.1.1.1 in
    λ i. record { name = a i; value_type = t i; value = v i; refers_to = r i; semantics = s i })

-- ---- Qualifier

qualifier_good : (l : Levels) (q : Qualifier) → whole_qualifier l q ≡ true
    → AreGood l (parts qualifier) (attribute (qualifier_attributes q))
qualifier_good l q w =
    let value_id = whole_if_there l q.value_id in
    let kind = named_if_good l qualifier_kind.name_of qualifier_kind.all qualifier_kind.found q.kind in
    let type = text_good l (Some q.qualifier_type) in
    let values = named_good l value_type.name_of value_type.all value_type.found q.value_type in
    let r = reference_if_good l q.value_id (and_left value_id _ w) in
    (kind, (type, (values, (text_good l q.value, (r, semantics_good l q.semantics (and_right value_id _ w))))))

pub qualifier_facts : Facts qualifier spell_qualifier whole_qualifier
qualifier_facts =
    part_facts qualifier qualifier_attributes whole_qualifier refl (λ l. refl) (λ q. refl) refl qualifier_good
    (λ l q good.
    let value_id = reference_if_back l q.value_id good.1.1.1.1.0 in
    and_from (whole_if_there l q.value_id) _ value_id (semantics_back l q.semantics good.1.1.1.1.1))
    (λ p q agree.
    let k = same_words_if qualifier_kind.name_of qualifier_kind.all qualifier_kind.found p.kind q.kind agree.0 in
    let t = same_texts p.qualifier_type q.qualifier_type agree.1.0 in
    let y = same_words value_type.name_of value_type.all value_type.found p.value_type q.value_type agree.1.1.0 in
    let v = same_texts_if p.value q.value agree.1.1.1.0 in
    let r = if_same reference_facts p.value_id q.value_id agree.1.1.1.1.0 in
    let s = same_semantics p.semantics q.semantics agree.1.1.1.1.1 in
    λ i. record { kind = k i; qualifier_type = t i; value_type = y i; value = v i; value_id = r i; semantics = s i })

-- ---- SpecificAssetId

specific_asset_id_good : (l : Levels) (a : SpecificAssetId) → whole_specific_asset_id l a ≡ true
    → AreGood l (parts specific_asset_id) (attribute (specific_asset_id_attributes a))
specific_asset_id_good l a w =
    let subject = whole_if_there l a.external_subject_id in
    let r = reference_if_good l a.external_subject_id (and_left subject _ w) in
    let s = semantics_good l a.semantics (and_right subject _ w) in
    (text_good l (Some a.name), (text_good l (Some a.value), (r, s)))

pub specific_asset_id_facts : Facts specific_asset_id spell_specific_asset_id whole_specific_asset_id
specific_asset_id_facts =
    part_facts specific_asset_id specific_asset_id_attributes whole_specific_asset_id refl (λ l. refl) (λ a. refl) refl
    specific_asset_id_good
    (λ l a good.
    let subject = reference_if_back l a.external_subject_id good.1.1.0 in
    and_from (whole_if_there l a.external_subject_id) _ subject (semantics_back l a.semantics good.1.1.1))
    (λ a b agree.
    let n = same_texts a.name b.name agree.0 in
    let v = same_texts a.value b.value agree.1.0 in
    let r = if_same reference_facts a.external_subject_id b.external_subject_id agree.1.1.0 in
    let s = same_semantics a.semantics b.semantics agree.1.1.1 in
    λ i. record { name = n i; value = v i; external_subject_id = r i; semantics = s i })

-- ---- AdministrativeInformation

administration_good : (l : Levels) (a : Administration) → whole_administration l a ≡ true
    → AreGood l (parts administration) (attribute (administration_attributes a))
administration_good l a w =
    let creator = whole_if_there l a.creator in
    let c = reference_if_good l a.creator (and_left creator _ w) in
    let k = kept_good l a.embedded_data_specifications (and_right creator _ w) in
    (text_good l a.version, (text_good l a.revision, (c, (text_good l a.template_id, (k, tt)))))

pub administration_facts : Facts administration spell_administration whole_administration
administration_facts =
    part_facts administration administration_attributes whole_administration refl (λ l. refl) (λ a. refl) refl
    administration_good
    (λ l a good.
    let creator = reference_if_back l a.creator good.1.1.0 in
    and_from (whole_if_there l a.creator) _ creator (kept_back l a.embedded_data_specifications good.1.1.1.1.0))
    (λ a b agree.
    let v = same_texts_if a.version b.version agree.0 in
    let r = same_texts_if a.revision b.revision agree.1.0 in
    let c = if_same reference_facts a.creator b.creator agree.1.1.0 in
    let t = same_texts_if a.template_id b.template_id agree.1.1.1.0 in
    let e = same_kept a.embedded_data_specifications b.embedded_data_specifications agree.1.1.1.1.0 in
    λ i. record { version = v i; revision = r i; creator = c i; template_id = t i; embedded_data_specifications = e i })

pub administration_if_good : (l : Levels) (o : Option Administration) → whole_administration_if_there l o ≡ true
    → Good l (one administration) (option_map spell_administration o)
administration_if_good l None w = none_good l (one administration)
administration_if_good l (Some a) w = administration_facts.good l a w

pub administration_if_back : (l : Levels) (o : Option Administration)
    → Good l (one administration) (option_map spell_administration o) → whole_administration_if_there l o ≡ true
administration_if_back l None g = refl
administration_if_back l (Some a) g = administration_facts.back l a g

-- ---- Resource

abbrev any_resource : Levels → Resource → Bool
any_resource l r = true

resource_facts : Facts resource spell_resource any_resource
resource_facts =
    part_facts resource resource_attributes any_resource refl (λ l. refl) (λ r. refl) refl
    (λ l r w. (text_good l (Some r.path), (text_good l r.content_type, tt)))
    (λ l r good. refl)
    (λ q r agree.
    let p = same_texts q.path r.path agree.0 in
    let c = same_texts_if q.content_type r.content_type agree.1.0 in
    λ i. record { path = p i; content_type = c i })

resource_if_good : (l : Levels) (o : Option Resource) → Good l (one resource) (option_map spell_resource o)
resource_if_good l None = none_good l (one resource)
resource_if_good l (Some r) = resource_facts.good l r refl

-- ---- AssetInformation

asset_information_good : (l : Levels) (a : AssetInformation) → whole_asset_information l a ≡ true
    → AreGood l (parts asset_information) (attribute (asset_information_attributes a))
asset_information_good l a w =
    let kind = named_good l asset_kind.name_of asset_kind.all asset_kind.found a.asset_kind in
    let ids = all_good specific_asset_id_facts l a.specific_asset_ids w in
    let thumbnail = resource_if_good l a.default_thumbnail in
    (kind, (text_good l a.global_asset_id, (ids, (text_good l a.asset_type, (thumbnail, tt)))))

pub asset_information_facts : Facts asset_information spell_asset_information whole_asset_information
asset_information_facts =
    part_facts asset_information asset_information_attributes whole_asset_information refl (λ l. refl) (λ a. refl) refl
    asset_information_good
    (λ l a good. all_back specific_asset_id_facts l a.specific_asset_ids good.1.1.0)
    (λ a b agree.
    let k = same_words asset_kind.name_of asset_kind.all asset_kind.found a.asset_kind b.asset_kind agree.0 in
    let g = same_texts_if a.global_asset_id b.global_asset_id agree.1.0 in
    let s = all_same specific_asset_id_facts a.specific_asset_ids b.specific_asset_ids agree.1.1.0 in
    let t = same_texts_if a.asset_type b.asset_type agree.1.1.1.0 in
    let d = if_same resource_facts a.default_thumbnail b.default_thumbnail agree.1.1.1.1.0 in
    λ i. record {
      asset_kind = k i;
      global_asset_id = g i;
      specific_asset_ids = s i;
      asset_type = t i;
      default_thumbnail = d i;
    })
