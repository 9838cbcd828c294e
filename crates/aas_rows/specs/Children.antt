-- Children among rows: those of their level, up to the first row that stands higher.
use Rattle.std.specs.Prelude.{◌≡◌, ℕ, zero, suc, ◌+◌, ◌==◌, ◌&&◌, Bool, List, [], ◌∷◌, length, take, Option, Some, None, option_map, if◌then◌else◌}
use Rattle.std.specs.List.{count_by, position}
use Rattle.aas_model.specs.declared.element.Element.{Element}
use Rattle.aas_model.specs.declared.path.PathStep.{PathStep}
use Rattle.aas_model.specs.declared.path.PathStep.TheVariants.{Name, Place}
use Rattle.aas_path_trees.specs.ElementAt.{is_text, child_by}
use Rattle.aas_rows.specs.Edits.{count}
use Rattle.aas_rows.specs.Rows.{Line, rows_of_all}

-- the place of the n-th that passes, counted from 0
abbrev pub nth_where : {X : Type 0} → (X → Bool) → ℕ → List X → Option ℕ
nth_where p n [] = None
nth_where p zero (x ∷ xs) = if p x then Some 0 else option_map (λ i. i + 1) (nth_where p zero xs)
nth_where p (suc n) (x ∷ xs) = option_map (λ i. i + 1) (if p x then nth_where p n xs else nth_where p (suc n) xs)

abbrev pub is_at : ℕ → Line → Bool
is_at k r = r.level == k

abbrev pub is_named : ℕ → List ℕ → Line → Bool
is_named k n r = (r.level == k) && is_text n r.common.id_short

-- the place of the row to which a step leads, among the rows of a list's children or of others, which stand at level k
abbrev pub row_of_step : Bool → PathStep → ℕ → List Line → Option ℕ
row_of_step l (Name n) k rs = if l then None else position (is_named k n) rs
row_of_step l (Place i) k rs = if l then nth_where (is_at k) i rs else None

-- a step leads to the row of the child to which it leads
abbrev pub ChildRows : Type 0
ChildRows = (l : Bool) (s : PathStep) (ks : List Element) (k : ℕ) → row_of_step l s k (rows_of_all ks k) ≡ option_map (λ c. count (take c.0 ks)) (child_by l s ks)

-- among the rows of siblings there is one of their level for each
abbrev pub ChildCount : Type 0
ChildCount = (ks : List Element) (k : ℕ) → count_by (is_at k) (rows_of_all ks k) ≡ length ks
