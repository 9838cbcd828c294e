-- Trees on a stack, the last the uppermost: grown from the last row to the first, or waiting to be laid out as rows.
use Rattle.std.specs.Prelude.{ℕ, nat_lt, Bool, false, List, [], ◌∷◌, ◌++◌, take, drop}
use Rattle.aas_rows.specs.Rows.{Line, Placed}
use Rattle.aas_sheet_rows.specs.Table.{lines_of}
use Rattle.aas_sheet_rows.specs.declared.tree.Tree.{Tree}
use Rattle.aas_sheet_rows.specs.declared.row.Row.{Row}
use Rattle.aas_sheet_index.specs.declared.side.Side.{Side}

-- the trees with their levels, from the uppermost down
abbrev pub placed_of : List Tree → List Placed
placed_of [] = []
placed_of (g ∷ gs) = placed_of gs ++ (g.level, g.element) ∷ []

abbrev pub first_is_deeper : ℕ → List Placed → Bool
first_is_deeper k [] = false
first_is_deeper k (p ∷ ps) = nat_lt k p.0

abbrev pub top_is_deeper : ℕ → List Tree → Bool
top_is_deeper k gs = first_is_deeper k (placed_of gs)

abbrev pub rows_between : List Row → List Side → ℕ → ℕ → List Line
rows_between rs ss first end = drop first (take end (lines_of rs ss))
