-- Sides whose sizes are put right after an edit.
use Rattle.std.specs.Prelude.{◌≡◌, ℕ, ◌+◌, ◌<◌, ◌≤◌, List, [], ◌∷◌, ◌++◌, length, slice_get, take, drop, Some}
use Rattle.aas_sheet_index.specs.Sides.{AreMeasured}
use Rattle.aas_sheet_index.specs.declared.side.Side.{Side}

-- the first stands no deeper than the level k
abbrev pub Begins : ℕ → List Side → Type 0
Begins k [] = Unit {0}
Begins k (s ∷ ss) = s.level ≤ k

-- Those from first to known stand in the place of others, which went up to end. The sizes were right with these, and
-- what stood there first was no deeper than k.
pub record StandFor (ss : List Side) (first known end k : ℕ) : Type 0 where
  pub old : List Side
  pub went : first + length old ≡ end
  pub sized : AreMeasured (take first ss ++ (old ++ drop known ss))
  pub begins : Begins k (old ++ drop known ss)

-- The row of a rank before place counts those up to end,
-- stands above the level least, and is at most one level above k.
pub record IsAbove (ss : List Side) (rank place k least end : ℕ) : Type 0 where
  pub before : rank < place
  pub side : Side
  pub there : slice_get ss rank ≡ Some side
  pub close : k ≤ side.level + 1
  pub high : side.level < least
  pub counts : end ≤ rank + side.size
