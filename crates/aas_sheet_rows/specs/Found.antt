-- Where elements stand in a table.
use Rattle.std.specs.Prelude.{◌≡◌, ℕ, ◌+◌, Bool, List, [], ◌++◌, length, Option, Some, None, if◌then◌else◌}
use Rattle.aas_model.specs.declared.element.Element.{Element}
use Rattle.aas_model.specs.declared.path.PathStep.{PathStep}
use Rattle.aas_model.specs.declared.path.PathStep.TheVariants.{Name, Place}
use Rattle.std.specs.List.{position}
use Rattle.aas_rows.specs.Children.{nth_where}
use Rattle.aas_rows.specs.Rows.{Line, rows_of_all, BeginsRows}
use Rattle.aas_sheet_index.specs.Sides.{is_below, is_named_below}
use Rattle.aas_sheet_rows.specs.Table.{lines_of}
use Rattle.aas_sheet_rows.specs.declared.finding.RowRange.{RowRange}
use Rattle.aas_sheet_rows.specs.declared.row.Row.{Row}
use Rattle.aas_sheet_index.specs.declared.side.Side.{Side}

-- the place to which a step leads among the rows below one that stands at level k
abbrev pub side_of_step : Bool → PathStep → ℕ → List Side → Option ℕ
side_of_step l (Name n) k ss = if l then None else position (is_named_below k n) ss
side_of_step l (Place i) k ss = if l then nth_where (is_below k) i ss else None

-- ks stand, as the children of what has the level k, in the rows from first to end
pub record Among (rs : List Row) (ss : List Side) (first end k : ℕ) (ks : List Element) : Type 0 where
  pub before : List Line
  pub behind : List Line
  pub whole : lines_of rs ss ≡ before ++ (rows_of_all ks (k + 1) ++ behind)
  pub start : length before ≡ first
  pub stop : first + length (rows_of_all ks (k + 1)) ≡ end
  pub higher : BeginsRows (k + 1) behind

-- all rows, which stand below the submodel itself
abbrev pub all_rows : List Side → RowRange
all_rows ss = record { first = 0; end = length ss; level = 0 }

-- ks stand, as the children of one, in the rows that are given out, or there are none
abbrev pub AreBelow : List Row → List Side → List Element → Option RowRange → Type 0
AreBelow rs ss ks None = ks ≡ []
AreBelow rs ss ks (Some b) = Among rs ss b.first b.end b.level ks
