-- The environment of what a store holds (IDTA-01001-3-0, class Environment), and its text.
use Rattle.std.specs.Prelude.{ℕ, List, [], ◌∷◌, ◌++◌}
use Rattle.std.specs.FinMap as map
use Rattle.aas_json_mapping.specs.Trees.{environments}
use Rattle.aas_json_spelling.specs.Spells.{canonical_text}
use Rattle.aas_model.specs.declared.documents.Environment.{Environment}
use Rattle.aas_store.specs.Documents.{Documents}

-- all documents, each collection in the order of its map, the byte order of identifiers
abbrev pub environment_of : Documents → Environment
environment_of d = record {
  shells = map.values d.shells;
  submodels = map.values d.submodels;
  concepts = map.values d.concepts;
}

-- what is exported: its text, and a line feed
abbrev pub export_text : Documents → List ℕ
export_text d = canonical_text environments (environment_of d) ++ 10 ∷ []
