-- The member of an environment that lists documents, as it is put
-- document by document (IDTA-01001-3-0, class Environment).
use Rattle.std.specs.Prelude.{ℕ, Bool, true, List, [], ◌∷◌, ◌++◌, codes, Option, option_map, if◌then◌else◌}
use Rattle.std.specs.FinMap as map
use Rattle.std.specs.Option.{option_to_list}
use Rattle.json.specs.Print.{quoted}
use Rattle.serde_json.specs.Written.{comma_if, compact_text}
use Rattle.aas_json_mapping.specs.Documents.{spell_concept, spell_shell, spell_submodel}
use Rattle.aas_json_table.specs.Spelled.{list_of}
use Rattle.aas_model_names.specs.declared.collection.Collection.{Collection}
use Rattle.aas_model_names.specs.declared.collection.Collection.TheVariants.{Shells, Submodels, Concepts}
use Rattle.aas_serialization.specs.Chosen.{documents_of}
use Rattle.aas_serialization.specs.Reaches.{Set}
use Rattle.aas_store.specs.Documents.{Documents, Identifier}

-- the text of the document of an identifier, if there is one
abbrev pub texts_at : Collection → Documents → Identifier → List (List ℕ)
texts_at Shells d id = option_to_list (option_map (λ s. compact_text (spell_shell s)) (map.get d.shells id))
texts_at Submodels d id = option_to_list (option_map (λ s. compact_text (spell_submodel s)) (map.get d.submodels id))
texts_at Concepts d id = option_to_list (option_map (λ c. compact_text (spell_concept c)) (map.get d.concepts id))

-- the member that lists a collection
abbrev pub name_of : Collection → List ℕ
name_of Shells = codes "assetAdministrationShells"
name_of Submodels = codes "submodels"
name_of Concepts = codes "conceptDescriptions"

-- what stands before an entry: a comma where another stands before it, and else the member's name and the bracket
abbrev pub before_entry : Bool → List ℕ → Bool → List ℕ
before_entry later name any = if any then 44 ∷ [] else (comma_if later ++ (quoted name ++ 58 ∷ [])) ++ 91 ∷ []

-- the text of an entry, if there is one
abbrev pub entry_text : Bool → List ℕ → Bool → List (List ℕ) → List ℕ
entry_text later name any [] = []
entry_text later name any (t ∷ ts) = before_entry later name any ++ t

abbrev pub array_end : Bool → List ℕ
array_end any = if any then 93 ∷ [] else []

-- the rest of a member that lists these texts
abbrev pub array_text : Bool → List ℕ → Bool → List (List ℕ) → List ℕ
array_text later name any [] = array_end any
array_text later name any (t ∷ ts) = before_entry later name any ++ (t ++ array_text later name true ts)

-- the value of the member that lists the documents of a set, which hasn't any where none is there
abbrev pub listed_documents : Collection → Documents → Set → Option (List ℕ)
listed_documents Shells d s = option_map compact_text (list_of spell_shell (documents_of d.shells s))
listed_documents Submodels d s = option_map compact_text (list_of spell_submodel (documents_of d.submodels s))
listed_documents Concepts d s = option_map compact_text (list_of spell_concept (documents_of d.concepts s))
