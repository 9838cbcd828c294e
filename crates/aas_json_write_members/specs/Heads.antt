-- The members of documents, and where a submodel's elements stand among its own.
use Rattle.std.specs.Prelude.{◌≡◌, ℕ, ◌||◌, Bool, List, [], ◌∷◌, ◌++◌, false, codes, map, option_map}
use Rattle.serde_json.specs.Written.{compact_text}
use Rattle.aas_json_mapping.specs.Documents.{typed, head_attributes, submodel_attributes, spell_submodel}
use Rattle.aas_json_mapping.specs.Elements.{spell_element}
use Rattle.aas_json_table.specs.Spelled.{Attributes, attribute}
use Rattle.aas_json_table.specs.Table.{text}
use Rattle.aas_model.specs.declared.common.Head.{Head}
use Rattle.aas_model.specs.declared.documents.Submodel.{Submodel}
use Rattle.aas_json_write_members.specs.Members.{Field, fields_text, later_after}
use Rattle.aas_json_write_members.specs.Script.{is_any, listed_text}
use Rattle.aas_json_write_members.specs.Texts.{shown, spoken}
use Rattle.aas_json_write_members.specs.declared.members.Show.{Show}

-- the members of any document's head that have these names
abbrev pub head_fields : Head → List (List ℕ) → List Field
head_fields h ns = map (λ n. (n, option_map compact_text (attribute (head_attributes h) n text))) ns

abbrev pub described_names : List (List ℕ)
described_names =
    codes "description" ∷ codes "displayName" ∷ codes "embeddedDataSpecifications"
    ∷ codes "extensions" ∷ codes "id" ∷ codes "idShort" ∷ []

-- with what stands before them
abbrev pub head_names : List (List ℕ)
head_names = codes "administration" ∷ codes "category" ∷ described_names

-- ---- submodels

abbrev pub all_attributes : Submodel → Attributes
all_attributes s = typed (codes "Submodel") (head_attributes s.head ++ submodel_attributes s)

-- the members of a submodel that have these names
abbrev pub submodel_fields : Submodel → List (List ℕ) → List Field
submodel_fields s ns = map (λ n. (n, option_map compact_text (attribute (all_attributes s) n text))) ns

-- the names of the members before the elements, and of those behind
abbrev pub names_before : List (List ℕ)
names_before = head_names ++ codes "kind" ∷ codes "modelType" ∷ codes "qualifiers" ∷ codes "semanticId" ∷ []

abbrev pub names_behind : List (List ℕ)
names_behind = codes "supplementalSemanticIds" ∷ []

-- whether a member stands before the elements
abbrev pub later_before : Submodel → Bool
later_before s = later_after false (submodel_fields s names_before)

-- the text of a submodel whose elements have these texts
abbrev pub submodel_text : Submodel → List (List ℕ) → List ℕ
submodel_text s ts =
    123 ∷ (fields_text false (submodel_fields s names_before)
    ++ (listed_text (later_before s) (codes "submodelElements") ts
    ++ (fields_text (later_before s || is_any ts) (submodel_fields s names_behind) ++ 125 ∷ [])))

-- The text of a submodel is the canonical one where those of its elements are.
abbrev pub SubmodelsHaveTheCanonicalText : Type 0
SubmodelsHaveTheCanonicalText = (s : Submodel)
    → submodel_text s (map (λ e. compact_text (spell_element e)) s.kids) ≡ compact_text (spell_submodel s)

-- It is the canonical one of what is shown of it, where the texts of the elements are those that are shown.
abbrev pub ShownSubmodelsHaveTheCanonicalText : Type 0
ShownSubmodelsHaveTheCanonicalText = (w : Show) (s : Submodel)
    → submodel_text s (map (λ e. (spoken w e 1).text) s.kids)
    ≡ compact_text (spell_submodel (record s { kids = map (λ e. shown w e 1) s.kids }))
