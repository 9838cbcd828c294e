-- What a loan of a row leaves alone.
use Rattle.std.specs.Prelude.{◌≡◌, ℕ}
use Rattle.aas_model.specs.declared.documents.Submodel.{Submodel}
use Rattle.aas_rows.specs.Rows.{rows_of_all}
use Rattle.aas_sheet_rows.specs.Changed.{changed, with_row}
use Rattle.aas_sheet_rows.specs.declared.row.Row.{Row}

-- the rows of the submodel that a loan leaves are the old ones, but for the one of its rank
abbrev pub OthersStay : Type 0
OthersStay = (d : Submodel) (n : ℕ) (w : Row) → rows_of_all (with_row d n w).kids 1 ≡ changed (rows_of_all d.kids 1) n w
