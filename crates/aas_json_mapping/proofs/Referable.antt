-- What documents and elements have in common: the members of Referable, HasExtensions and HasDataSpecification, with the modelType.
use Rattle.std.proofs.Common.{◌≡◌, ℕ, List, [], ◌∷◌, true, Option, Some, option_map, codes}
use Rattle.std.specs.List.{list_all}
use Rattle.serde_json.specs.Data.{Data, string}
use Rattle.aas_json_table.specs.Table.{referable}
use Rattle.aas_json_table.specs.TooDeep.{Levels}
use Rattle.aas_json_table.specs.Spelled.{Attributes, attribute, text_of, list_of}
use Rattle.aas_model.specs.declared.plain.Plain.{Plain}
use Rattle.aas_model.specs.declared.parts.LangText.{LangText}
use Rattle.aas_model.specs.declared.parts.Extension.{Extension}
use Rattle.aas_json_spelling.specs.Kept.{spell_plain}
use Rattle.aas_json_spelling.proofs.Objects.{Agree, AreGood}
use Rattle.aas_json_spelling.proofs.MemberTypes.{text_good, string_good, same_texts_if}
use Rattle.aas_json_spelling.proofs.Kept.{same_kept}
use Rattle.aas_json_mapping.specs.Parts.{spell_lang_text, spell_extension}
use Rattle.aas_json_mapping.specs.Whole.{whole_kept, whole_extension}
use Rattle.aas_json_mapping.proofs.Facts.{all_good, all_back, all_same, kept_good, kept_back}
use Rattle.aas_json_mapping.proofs.Parts.{lang_text_facts, lang_texts_good, extension_facts}

pub record Referable : Type 0 where
  pub category : Option (List ℕ)
  pub description : List LangText
  pub display_name : List LangText
  pub extensions : List Extension
  pub id_short : Option (List ℕ)
  pub embedded_data_specifications : List Plain

-- with a modelType
abbrev pub referable_attributes : List ℕ → Referable → Attributes
referable_attributes model_type x =
    (codes "category", option_map text_of x.category)
    ∷ (codes "description", list_of spell_lang_text x.description)
    ∷ (codes "displayName", list_of spell_lang_text x.display_name)
    ∷ (codes "extensions", list_of spell_extension x.extensions)
    ∷ (codes "idShort", option_map text_of x.id_short)
    ∷ (codes "modelType", Some (string model_type))
    ∷ (codes "embeddedDataSpecifications", list_of spell_plain x.embedded_data_specifications)
    ∷ []

pub referable_good : (l : Levels) (m : List ℕ) (x : Referable) → list_all (whole_extension l) x.extensions ≡ true → whole_kept l x.embedded_data_specifications ≡ true → AreGood l referable (attribute (referable_attributes m x))
referable_good l m x extensions embedded = (
  text_good l x.category,
  (
    lang_texts_good l x.description,
    (lang_texts_good l x.display_name, (all_good extension_facts l x.extensions extensions, (text_good l x.id_short, (string_good l m, (kept_good l x.embedded_data_specifications embedded, tt))))),
  ),
)

pub referable_back : (l : Levels) (m : List ℕ) (x : Referable) → AreGood l referable (attribute (referable_attributes m x))
    → (list_all (whole_extension l) x.extensions ≡ true) × (whole_kept l x.embedded_data_specifications ≡ true)
referable_back l m x good = (all_back extension_facts l x.extensions good.1.1.1.0, kept_back l x.embedded_data_specifications good.1.1.1.1.1.1.0)

pub same_referable : (m n : List ℕ) (x y : Referable) → Agree referable (attribute (referable_attributes m x)) (attribute (referable_attributes n y)) → (m ≡ n) × (x ≡ y)
same_referable m n x y agree =
    let c = same_texts_if x.category y.category agree.0 in
    let d = all_same lang_text_facts x.description y.description agree.1.0 in
    let n = all_same lang_text_facts x.display_name y.display_name agree.1.1.0 in
    let e = all_same extension_facts x.extensions y.extensions agree.1.1.1.0 in
    let s = same_texts_if x.id_short y.id_short agree.1.1.1.1.0 in
    let k = same_kept x.embedded_data_specifications y.embedded_data_specifications agree.1.1.1.1.1.1.0 in
    (same_model_type agree.1.1.1.1.1.0, λ i. record { category = c i; description = d i; display_name = n i; extensions = e i; id_short = s i; embedded_data_specifications = k i })
  where
    same_model_type : ◌≡◌ {A = Option Data} (Some (string m)) (Some (string n)) → m ≡ n
    same_model_type e = cc
