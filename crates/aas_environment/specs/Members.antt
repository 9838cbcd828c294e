-- The text of an environment, member by member (IDTA-01001-3-0, class Environment, JSON mapping).
use Rattle.std.specs.Prelude.{ℕ, Bool, List, [], ◌∷◌, ◌++◌, codes, is_some, map}
use Rattle.std.specs.Option.{option_map_or}
use Rattle.json.specs.Print.{quoted}
use Rattle.serde_json.specs.Data.{Items, no_items}
use Rattle.serde_json.specs.Written.{comma_if, compact_text}
use Rattle.aas_json_mapping.specs.Documents.{spell_concept, spell_shell, spell_submodel}
use Rattle.aas_json_table.specs.Canonical.{listed}
use Rattle.aas_json_table.specs.Spelled.{onto}
use Rattle.aas_model.specs.declared.documents.Environment.{Environment}
use Rattle.aas_model_names.specs.declared.collection.Collection.{Collection}
use Rattle.aas_model_names.specs.declared.collection.Collection.TheVariants.{Concepts, Shells, Submodels}

-- the member that lists a collection
abbrev pub name_of : Collection → List ℕ
name_of Shells = codes "assetAdministrationShells"
name_of Submodels = codes "submodels"
name_of Concepts = codes "conceptDescriptions"

-- what spells its documents
abbrev pub spellings : Collection → Environment → Items
spellings Shells e = onto (map spell_shell e.shells) no_items
spellings Submodels e = onto (map spell_submodel e.submodels) no_items
spellings Concepts e = onto (map spell_concept e.concepts) no_items

-- whether a collection has its member, which it hasn't where it is empty
abbrev pub has_member : Collection → Environment → Bool
has_member c e = is_some (listed (spellings c e))

-- the name of that member, with its colon
abbrev pub name_text : Collection → List ℕ
name_text c = quoted (name_of c) ++ 58 ∷ []

-- the text of that member, behind a comma where another stands before it
abbrev pub member_text : Bool → Collection → Environment → List ℕ
member_text later c e =
    option_map_or (λ list. comma_if later ++ (name_text c ++ compact_text list)) (listed (spellings c e)) []
