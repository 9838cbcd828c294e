-- How documents are spelled in JSON: one line an attribute (IDTA-01001-3-0, the class that each comment names).
use Rattle.std.specs.Prelude.{ℕ, List, [], ◌∷◌, ◌++◌, codes, Some, option_map, unwrap_or}
use Rattle.serde_json.specs.Data.{Data, string}
use Rattle.aas_model_names.specs.ModellingKindNames as modelling_kind
use Rattle.aas_json_table.specs.Table.{Sort, parts, environment, shell, submodel, concept, model_types}
use Rattle.aas_json_table.specs.Rows.{find}
use Rattle.aas_json_table.specs.Spelled.{Attributes, spelled, text_of, list_of}
use Rattle.aas_json_spelling.specs.Kept.{spell_plain}
use Rattle.aas_reference.specs.Spelling.{spell_reference}
use Rattle.aas_json_mapping.specs.Parts.{semantics_attributes, spell_lang_text, spell_extension, spell_qualifier, spell_administration, spell_asset_information}
use Rattle.aas_json_mapping.specs.Elements.{spell_element}
use Rattle.aas_model.specs.declared.common.Head.{Head}
use Rattle.aas_model.specs.declared.documents.Submodel.{Submodel}
use Rattle.aas_model.specs.declared.documents.Shell.{Shell}
use Rattle.aas_model.specs.declared.documents.Concept.{Concept}
use Rattle.aas_model.specs.declared.documents.Environment.{Environment}

-- Identifiable, with HasExtensions and HasDataSpecification
abbrev pub head_attributes : Head → Attributes
head_attributes h =
    (codes "id", Some (text_of h.id))
    ∷ (codes "administration", option_map spell_administration h.administration)
    ∷ (codes "category", option_map text_of h.category)
    ∷ (codes "description", list_of spell_lang_text h.description)
    ∷ (codes "displayName", list_of spell_lang_text h.display_name)
    ∷ (codes "extensions", list_of spell_extension h.extensions)
    ∷ (codes "idShort", option_map text_of h.id_short)
    ∷ (codes "embeddedDataSpecifications", list_of spell_plain h.embedded_data_specifications)
    ∷ []

-- attributes with a modelType
abbrev pub typed : List ℕ → Attributes → Attributes
typed model_type attributes = (codes "modelType", Some (string model_type)) ∷ attributes

-- a document of a sort, which has one modelType
abbrev pub document : Sort → List ℕ → Attributes → Data
document sort model_type attributes = spelled (unwrap_or (find model_type (model_types sort)) []) (typed model_type attributes)

-- AssetAdministrationShell
abbrev pub shell_attributes : Shell → Attributes
shell_attributes s =
    (codes "assetInformation", Some (spell_asset_information s.asset))
    ∷ (codes "derivedFrom", option_map spell_reference s.derived_from)
    ∷ (codes "submodels", list_of spell_reference s.submodels)
    ∷ []

abbrev pub spell_shell : Shell → Data
spell_shell s = document shell (codes "AssetAdministrationShell") (head_attributes s.head ++ shell_attributes s)

-- Submodel
abbrev pub submodel_attributes : Submodel → Attributes
submodel_attributes s =
    (codes "kind", option_map (λ k. string (modelling_kind.name_of k)) s.kind)
    ∷ semantics_attributes s.semantics ++
    (codes "qualifiers", list_of spell_qualifier s.qualifiers)
    ∷ (codes "submodelElements", list_of spell_element s.kids)
    ∷ []

abbrev pub spell_submodel : Submodel → Data
spell_submodel s = document submodel (codes "Submodel") (head_attributes s.head ++ submodel_attributes s)

-- ConceptDescription
abbrev pub concept_attributes : Concept → Attributes
concept_attributes c =
    (codes "isCaseOf", list_of spell_reference c.is_case_of)
    ∷ []

abbrev pub spell_concept : Concept → Data
spell_concept c = document concept (codes "ConceptDescription") (head_attributes c.head ++ concept_attributes c)

-- Environment
abbrev pub spell_environment : Environment → Data
spell_environment e = spelled (parts environment) (
    (codes "assetAdministrationShells", list_of spell_shell e.shells)
    ∷ (codes "submodels", list_of spell_submodel e.submodels)
    ∷ (codes "conceptDescriptions", list_of spell_concept e.concepts)
    ∷ [])
