-- Ranks of which one stands in its place among all.
use Rattle.std.specs.Prelude.{◌≡◌, ℕ, ◌∷◌, ◌++◌, false, List, length}
use Rattle.std.specs.List.{AllByRecursion}
use Rattle.std.specs.List.Sorted.{IsSorted}
use Rattle.std.specs.Ordering.{is_lt}
use Rattle.aas_sheet_index.specs.Index.{order}
use Rattle.aas_sheet_index.specs.declared.side.Side.{Side}

-- the one at a place stands behind those before it, and before those behind it; on both sides two parts are in order,
-- of which the first ends at place, and that behind the one has rest ranks
pub record Divided (ss : List Side) (ranks : List ℕ) (place at rest : ℕ) : Type 0 where
  pub one : List ℕ
  pub two : List ℕ
  pub middle : ℕ
  pub three : List ℕ
  pub four : List ℕ
  pub whole : ranks ≡ (one ++ two) ++ middle ∷ (three ++ four)
  pub ends : length one ≡ place
  pub stands : length (one ++ two) ≡ at
  pub goes_on : length three ≡ rest
  pub one_sorted : IsSorted (order ss) one
  pub two_sorted : IsSorted (order ss) two
  pub three_sorted : IsSorted (order ss) three
  pub four_sorted : IsSorted (order ss) four
  pub before : AllByRecursion (λ r. is_lt (order ss middle r) ≡ false) (one ++ two)
  pub behind : AllByRecursion (λ r. is_lt (order ss r middle) ≡ false) (three ++ four)
