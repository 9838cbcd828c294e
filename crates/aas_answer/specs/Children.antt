-- The children of a submodel among the rows of its elements.
use Rattle.std.specs.Prelude.{◌≡◌, ℕ, ◌+◌, List, drop, slice_get, Option, Some, option_map}
use Rattle.aas_model.specs.declared.element.Element.{Element}
use Rattle.aas_rows.specs.Children.{is_at, nth_where}
use Rattle.aas_rows.specs.Rows.{Line, rows_of_all}

-- the rank of the first child from a rank on
abbrev pub child_from : ℕ → List Line → Option ℕ
child_from n rows = option_map (λ i. n + i) (nth_where (is_at 1) 0 (drop n rows))

-- The row of the rank is that of e, which stands in a place among the children whose rows these are, and behind it
-- stand the rows below e, up to the next child.
pub record IsChildAt (rows : List Line) (rank : ℕ) (e : Element) : Type 0 where
  pub kids : List Element
  pub place : ℕ
  pub rows_are : rows ≡ rows_of_all kids 1
  pub rank_is : nth_where (is_at 1) place rows ≡ Some rank
  pub child_is : slice_get kids place ≡ Some e
