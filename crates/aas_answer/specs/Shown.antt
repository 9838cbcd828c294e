-- The texts of documents and elements at a level and to an extent (IDTA-01002-3-0,
-- serialization modifiers Level and Extent).
use Rattle.std.specs.Prelude.{ℕ, List, [], slice_get}
use Rattle.std.specs.FinMap as map
use Rattle.std.specs.Option.{option_map_or}
use Rattle.aas_json_mapping.specs.Trees.{concepts, shells}
use Rattle.aas_json_spelling.specs.Spells.{canonical_text}
use Rattle.aas_model_names.specs.declared.collection.Collection.{Collection}
use Rattle.aas_model_names.specs.declared.collection.Collection.TheVariants.{Shells, Submodels, Concepts}
use Rattle.aas_model_names.specs.declared.modifiers.Extent.{Extent}
use Rattle.aas_model_names.specs.declared.modifiers.Level.{Level}
use Rattle.aas_json_write_rows.specs.Poured.{if_row, text_at}
use Rattle.aas_json_write_rows.specs.Shown.{show_at}
use Rattle.aas_rows.specs.Rows.{Line}
use Rattle.aas_store.specs.Documents.{Documents, Identifier}
use Rattle.aas_answer.specs.Answers.{submodel_shown}

-- The text of the element of a rank among the rows of a submodel,
-- at a level and to an extent; nothing where there is none.
abbrev pub row_shown : Level → Extent → List Line → ℕ → List ℕ
row_shown level extent rows n = if_row (slice_get rows n) (λ r. text_at (show_at r.level level extent) rows n)

-- The text of the document of an identifier, a submodel's at a level and to an extent; nothing where there is none.
abbrev pub document_shown : Collection → Level → Extent → Identifier → Documents → List ℕ
document_shown Shells level extent id d = option_map_or (canonical_text shells) (map.get d.shells id) []
document_shown Submodels level extent id d = option_map_or (submodel_shown level extent) (map.get d.submodels id) []
document_shown Concepts level extent id d = option_map_or (canonical_text concepts) (map.get d.concepts id) []
