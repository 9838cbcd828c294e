-- What the attributes of a document or an element hold: its references, its texts, and its parts. Kept data isn't looked at.
use Rattle.std.specs.Prelude.{ℕ, List, [], ◌∷◌, ◌++◌, flat_map, Option}
use Rattle.aas_model.specs.declared.reference.Semantics.{Semantics}
use Rattle.aas_model.specs.declared.parts.LangText.{LangText}
use Rattle.aas_model.specs.declared.parts.Extension.{Extension}
use Rattle.aas_model.specs.declared.parts.Qualifier.{Qualifier}
use Rattle.aas_model.specs.declared.parts.SpecificAssetId.{SpecificAssetId}
use Rattle.aas_model.specs.declared.parts.Administration.{Administration}
use Rattle.aas_model.specs.declared.asset.Resource.{Resource}
use Rattle.aas_model.specs.declared.asset.AssetInformation.{AssetInformation}
use Rattle.aas_model.specs.declared.reference.Reference.{Reference}
use Rattle.aas_model.specs.declared.common.Common.{Common}
use Rattle.aas_model.specs.declared.common.Head.{Head}
use Rattle.aas_model.specs.declared.documents.Submodel.{Submodel}
use Rattle.aas_model.specs.declared.documents.Shell.{Shell}
use Rattle.aas_model.specs.declared.documents.Concept.{Concept}
use Rattle.aas_model.specs.declared.payload.Payload.{Payload}
use Rattle.aas_model.specs.declared.payload.Payload.TheVariants as p
use Rattle.aas_constraint_rules.specs.Sites.{Own}
use Rattle.aas_constraint_rules.specs.Texts.{as_list}

-- ---- what a constraint sees of any document or element

pub record Seen : Type 0 where
  pub id_short : Option (List ℕ)
  pub semantics : List Semantics
  pub qualifiers : List Qualifier
  pub extensions : List Extension
  pub specific_asset_ids : List SpecificAssetId
  pub references : List Reference
  pub lang_texts : List LangText
  pub texts : List (List ℕ)

-- ---- references

abbrev pub semantics_references : Semantics → List Reference
semantics_references s = as_list s.semantic_id ++ s.supplemental_semantic_ids

abbrev pub extension_references : Extension → List Reference
extension_references e = e.refers_to ++ semantics_references e.semantics

abbrev pub qualifier_references : Qualifier → List Reference
qualifier_references q = as_list q.value_id ++ semantics_references q.semantics

abbrev pub specific_asset_id_references : SpecificAssetId → List Reference
specific_asset_id_references a = as_list a.external_subject_id ++ semantics_references a.semantics

-- of a kind's own members
abbrev pub payload_references : Payload → List Reference
payload_references (p.Property t v i) = as_list i
payload_references (p.MultiLanguageProperty v i) = as_list i
payload_references (p.ReferenceElement v) = as_list v
payload_references (p.RelationshipElement first second) = as_list first ++ as_list second
payload_references (p.AnnotatedRelationshipElement first second) = as_list first ++ as_list second
payload_references (p.Entity t g ids) = flat_map specific_asset_id_references ids
payload_references (p.BasicEventElement observed d s topic broker last min max) = as_list observed ++ as_list broker
payload_references (p.SubmodelElementList o s t v) = as_list s
payload_references _ = []

abbrev pub payload_specific_asset_ids : Payload → List SpecificAssetId
payload_specific_asset_ids (p.Entity t g ids) = ids
payload_specific_asset_ids _ = []

-- ---- texts

abbrev pub texts_of_languages : List LangText → List (List ℕ)
texts_of_languages ls = flat_map (λ l. l.language ∷ l.text ∷ []) ls

abbrev pub extension_texts : Extension → List (List ℕ)
extension_texts e = e.name ∷ as_list e.value

abbrev pub qualifier_texts : Qualifier → List (List ℕ)
qualifier_texts q = q.qualifier_type ∷ as_list q.value

abbrev pub specific_asset_id_texts : SpecificAssetId → List (List ℕ)
specific_asset_id_texts a = a.name ∷ a.value ∷ []

abbrev pub payload_texts : Payload → List (List ℕ)
payload_texts (p.Property t v i) = as_list v
payload_texts (p.Range t min max) = as_list min ++ as_list max
payload_texts (p.File t v) = as_list t ++ as_list v
payload_texts (p.Blob t v) = as_list t ++ as_list v
payload_texts (p.Entity t g ids) = as_list g
payload_texts (p.BasicEventElement observed d s topic broker last min max) = as_list topic ++ as_list last ++ as_list min ++ as_list max
payload_texts _ = []

abbrev pub administration_texts : Administration → List (List ℕ)
administration_texts a = as_list a.version ++ as_list a.revision ++ as_list a.template_id

abbrev pub resource_texts : Resource → List (List ℕ)
resource_texts r = r.path ∷ as_list r.content_type

-- ---- what is seen of an element

abbrev pub common_references : Common → List Reference
common_references c = semantics_references c.semantics ++ flat_map qualifier_references c.qualifiers ++ flat_map extension_references c.extensions

abbrev pub common_texts : Common → List (List ℕ)
common_texts c = as_list c.id_short ++ as_list c.category ++ flat_map qualifier_texts c.qualifiers ++ flat_map extension_texts c.extensions

abbrev pub references_of : Own → List Reference
references_of o = common_references o.common ++ payload_references o.payload

abbrev pub payload_lang_texts : Payload → List LangText
payload_lang_texts (p.MultiLanguageProperty v i) = v
payload_lang_texts _ = []

abbrev pub lang_texts_of : Own → List LangText
lang_texts_of o = o.common.description ++ o.common.display_name ++ payload_lang_texts o.payload

abbrev pub seen_of : Own → Seen
seen_of o = record {
  id_short = o.common.id_short;
  semantics = o.common.semantics ∷ [];
  qualifiers = o.common.qualifiers;
  extensions = o.common.extensions;
  specific_asset_ids = payload_specific_asset_ids o.payload;
  references = references_of o;
  lang_texts = lang_texts_of o;
  texts = common_texts o.common ++ payload_texts o.payload;
}

-- ---- what is seen of a document

abbrev pub administration_references : Administration → List Reference
administration_references a = as_list a.creator

abbrev pub head_references : Head → List Reference
head_references h = flat_map administration_references (as_list h.administration) ++ flat_map extension_references h.extensions

abbrev pub head_texts : Head → List (List ℕ)
head_texts h = h.id ∷ as_list h.id_short ++ as_list h.category ++ flat_map administration_texts (as_list h.administration) ++ flat_map extension_texts h.extensions

abbrev pub asset_texts : AssetInformation → List (List ℕ)
asset_texts a = as_list a.global_asset_id ++ as_list a.asset_type ++ flat_map resource_texts (as_list a.default_thumbnail)

abbrev pub seen_of_submodel : Submodel → Seen
seen_of_submodel d = record {
  id_short = d.head.id_short;
  semantics = d.semantics ∷ [];
  qualifiers = d.qualifiers;
  extensions = d.head.extensions;
  specific_asset_ids = [];
  references = head_references d.head ++ semantics_references d.semantics ++ flat_map qualifier_references d.qualifiers;
  lang_texts = d.head.description ++ d.head.display_name;
  texts = head_texts d.head ++ flat_map qualifier_texts d.qualifiers;
}

abbrev pub seen_of_shell : Shell → Seen
seen_of_shell d = record {
  id_short = d.head.id_short;
  semantics = [];
  qualifiers = [];
  extensions = d.head.extensions;
  specific_asset_ids = d.asset.specific_asset_ids;
  references = head_references d.head ++ as_list d.derived_from ++ flat_map specific_asset_id_references d.asset.specific_asset_ids ++ d.submodels;
  lang_texts = d.head.description ++ d.head.display_name;
  texts = head_texts d.head ++ asset_texts d.asset;
}

abbrev pub seen_of_concept : Concept → Seen
seen_of_concept d = record {
  id_short = d.head.id_short;
  semantics = [];
  qualifiers = [];
  extensions = d.head.extensions;
  specific_asset_ids = [];
  references = head_references d.head ++ d.is_case_of;
  lang_texts = d.head.description ++ d.head.display_name;
  texts = head_texts d.head;
}

-- every text of the attributes, those of the parts among them, but for those of references
abbrev pub all_texts : Seen → List (List ℕ)
all_texts x = x.texts ++ texts_of_languages x.lang_texts ++ flat_map specific_asset_id_texts x.specific_asset_ids
