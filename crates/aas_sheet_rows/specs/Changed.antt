-- A submodel with another row.
use Rattle.std.specs.Prelude.{◌≡◌, ℕ, zero, suc, List, [], ◌∷◌, slice_get, Some}
use Rattle.aas_model.specs.declared.documents.Submodel.{Submodel}
use Rattle.aas_rows.specs.Rows.{Line, rows_of_all, trees_of}
use Rattle.aas_sheet_rows.specs.declared.row.Row.{Row}

-- a row with what w says; its level and its idShort stay
abbrev pub with_own : Line → Row → Line
with_own r w = record {
  level = r.level;
  common = record w.common { id_short = r.common.id_short };
  payload = w.payload;
  role = w.role;
}

abbrev pub changed : List Line → ℕ → Row → List Line
changed [] n w = []
changed (r ∷ rs) zero w = with_own r w ∷ rs
changed (r ∷ rs) (suc n) w = r ∷ changed rs n w

-- the submodel whose rows are those of d, but for that of a rank, which has what w says
abbrev pub with_row : Submodel → ℕ → Row → Submodel
with_row d n w = record d { kids = trees_of (changed (rows_of_all d.kids 1) n w) }

-- w says what the row of a rank in d says, the idShort aside
abbrev pub IsRow : Submodel → ℕ → Row → Type 0
IsRow d n w = (r : Line) × (slice_get (rows_of_all d.kids 1) n ≡ Some r) × (with_own r w ≡ r)
