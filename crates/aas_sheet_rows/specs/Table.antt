-- A submodel as a table: a column of rows in preorder, and beside it a column of idShorts, levels and sizes. This
-- profile's own rule.
use Rattle.std.specs.Prelude.{◌≡◌, ℕ, List, [], ◌∷◌, length}
use Rattle.std.specs.List.{count_by}
use Rattle.aas_model.specs.declared.documents.Submodel.{Submodel}
use Rattle.aas_rows.specs.Rows.{Line, trees_of, InPreorder, sizes}
use Rattle.aas_sheet_index.specs.Sides.{is_below, levels, sizes_of}
use Rattle.aas_sheet_rows.specs.declared.row.Row.{Row}
use Rattle.aas_sheet_index.specs.declared.side.Side.{Side}

-- a row and what stands beside it, which has the idShort
abbrev pub line_of : Row → Side → Line
line_of r s =
    record { level = s.level; common = record r.common { id_short = s.id_short }; payload = r.payload; role = r.role }

abbrev pub lines_of : List Row → List Side → List Line
lines_of [] ss = []
lines_of (r ∷ rs) [] = []
lines_of (r ∷ rs) (s ∷ ss) = line_of r s ∷ lines_of rs ss

-- what the table stands for
abbrev pub submodel_of : Submodel → List Row → List Side → Submodel
submodel_of head rs ss = record head { kids = trees_of (lines_of rs ss) }

pub record IsTable (rs : List Row) (ss : List Side) : Type 0 where
  pub long : length rs ≡ length ss
  pub ordered : InPreorder 0 (levels ss)
  pub sized : sizes_of ss ≡ sizes (levels ss)

-- how many rows stand right below the submodel
abbrev pub children_in : List Side → ℕ
children_in ss = count_by (is_below 0) ss
