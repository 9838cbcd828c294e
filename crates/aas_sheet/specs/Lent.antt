-- What is lent of a store for writing, and what a loan leaves.
use denote.RattleType.{RattleType}
use Rattle.std.specs.Prelude.{ℕ, ◌≤◌, length, IfSome, MatchOption}
use Rattle.std.specs.FinMap as map
use Rattle.aas_model.specs.declared.documents.Submodel.{Submodel}
use Rattle.aas_rows.specs.Rows.{rows_of_all}
use Rattle.aas_sheet.specs.SheetStore.{SheetStore, documents, holding}
use Rattle.aas_sheet_rows.specs.Changed.{with_row, IsRow}
use Rattle.aas_sheet_rows.specs.Lent.{sheet_type}
use Rattle.aas_sheet_rows.specs.declared.row.Row.{Row}
use Rattle.aas_store.specs.Documents.{Identifier, Map}
use Rattle.aas_store.specs.Edited.{with_changed}
use Rattle.aas_store.specs.contracts.document_store.DocumentStore as store

abbrev pub store_type : RattleType
store_type = store.the_row sheet_type

-- the store of the same documents but for that row
abbrev pub holding_row : SheetStore → Identifier → ℕ → Row → SheetStore
holding_row store id n w = holding (with_changed (documents store) id (λ s. with_row s n w))

-- there is no submodel of the identifier, or no such rank in it
abbrev pub HasNoRow : Map Submodel → Identifier → ℕ → Type 0
HasNoRow submodels id n = IfSome (map.get submodels id) (λ s. length (rows_of_all s.kids 1) ≤ n)

-- w says what the row of a rank in the submodel of the identifier says, the idShort aside
abbrev pub IsRowOf : Map Submodel → Identifier → ℕ → Row → Type 0
IsRowOf submodels id n w = MatchOption (map.get submodels id) ⊥ (λ s. IsRow s n w)
