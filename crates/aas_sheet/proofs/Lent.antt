-- What a loan of a row leaves.
use Rattle.std.proofs.Common.{◌≡◌, ℕ, ◌≤◌, length, Option, Some, None, sym, ap, ◌∙◌, subst}
use Rattle.std.specs.FinMap as map
use Rattle.std.specs.Option.{option_map_or, IfSome, MatchOption}
use Rattle.aas_model.specs.declared.documents.Submodel.{Submodel}
use Rattle.aas_rows.specs.Rows.{rows_of_all}
use Rattle.aas_sheet.specs.Lent.{HasNoRow, IsRowOf, holding_row}
use Rattle.aas_sheet.specs.SheetStore.{SheetStore, documents, holding}
use Rattle.aas_sheet_rows.specs.Changed.{with_row, IsRow}
use Rattle.aas_sheet_rows.specs.declared.row.Row.{Row}
use Rattle.aas_store.specs.Documents.{Identifier, Map}
use Rattle.aas_store.specs.DocumentStore.{with_table}
use Rattle.aas_store.proofs.KeptAll.{itself_kept}
use Rattle.aas_store.proofs.Shelves.{inserted_same}

-- the row of the one submodel is that of the submodels
pub row_in : {X : Type 0} (r : Option X) (row_of : X → Row)
    (submodels : Map Submodel) (id : Identifier) (n : ℕ) (s : Submodel)
    → map.get submodels id ≡ Some s
    → MatchOption r (length (rows_of_all s.kids 1) ≤ n) (λ x. IsRow s n (row_of x))
    → MatchOption r (HasNoRow submodels id n) (λ x. IsRowOf submodels id n (row_of x))
row_in None row_of submodels id n s is none =
    subst (λ (o : Option Submodel). IfSome o (λ s. length (rows_of_all s.kids 1) ≤ n)) (sym is) none
row_in (Some x) row_of submodels id n s is row =
    subst (λ (o : Option Submodel). MatchOption o ⊥ (λ s. IsRow s n (row_of x))) (sym is) row

module _ (store : SheetStore) (id : Identifier) where
  -- what the documents have, the store has
  pub there : (o : Option Submodel) → map.get store.submodels id ≡ o → map.get (documents store).submodels id ≡ o
  there o is = ap (λ m. map.get m id) (itself_kept store.submodels) ∙ is

  pub no_row : (n : ℕ) → map.get store.submodels id ≡ None → HasNoRow (documents store).submodels id n
  no_row n none =
      subst (λ (o : Option Submodel). IfSome o (λ s. length (rows_of_all s.kids 1) ≤ n)) (sym (there None none)) tt

  changed : (n : ℕ) (w : Row) → Option Submodel → SheetStore
  changed n w o = holding (option_map_or (λ s. record (documents store) {
    submodels = map.insert (documents store).submodels id (with_row s n w);
  })
      o (documents store))

  -- the store of the submodels that are left
  pub left_holding : (n : ℕ) (s : Submodel) → map.get store.submodels id ≡ Some s → (w : Row)
      → with_table store id (with_row s n w) ≡ holding_row store id n w
  unfolding changed
  left_holding n s is w =
      ap (λ m. record store { submodels = map.insert m id (with_row s n w) }) (sym (itself_kept store.submodels))
      ∙ sym (ap (changed n w) (there (Some s) is))

  pub left_same : (s : Submodel) → map.get store.submodels id ≡ Some s → with_table store id s ≡ store
  left_same s is = ap (λ m. record store { submodels = m }) (inserted_same store.submodels id s is)
