-- What a loan of a row leaves.
use Rattle.std.proofs.Common.{◌≡◌, ℕ, zero, suc, ◌≤◌, List, [], ◌∷◌, length, Option, Some, None, MutBor, slice_get}
use Rattle.std.proofs.Common.{slice_set, refl, sym, ap, ◌∙◌, subst, arith}
use Rattle.std.specs.Option.{MatchOption, option_copied_mut}
use Rattle.aas_lemmas.proofs.Lists.{past_end}
use Rattle.aas_model.specs.declared.documents.Submodel.{Submodel}
use Rattle.aas_rows.specs.Rows.{Line, rows_of_all, trees_of, levels_of, InPreorder}
use Rattle.aas_rows.proofs.Back.{trees_give_rows}
use Rattle.aas_sheet_rows.specs.Changed.{with_own, changed, with_row, IsRow}
use Rattle.aas_sheet_rows.specs.Table.{line_of, lines_of, submodel_of, IsTable}
use Rattle.aas_sheet_index.specs.Sides.{levels}
use Rattle.aas_sheet_rows.specs.declared.row.Row.{Row}
use Rattle.aas_sheet_index.specs.declared.side.Side.{Side}

pub levels_same : (rs : List Row) (ss : List Side) → length rs ≡ length ss → levels_of (lines_of rs ss) ≡ levels ss
levels_same [] [] e = refl
levels_same [] (s ∷ ss) e = absurd (omega arith)
levels_same (r ∷ rs) [] e = absurd (omega arith)
levels_same (r ∷ rs) (s ∷ ss) e = ap (λ ls. s.level ∷ ls) (levels_same rs ss (omega arith))

-- the rows of what a table stands for
pub rows_same : (head : Submodel) (rs : List Row) (ss : List Side)
    → IsTable rs ss → rows_of_all (submodel_of head rs ss).kids 1 ≡ lines_of rs ss
rows_same head rs ss t =
    trees_give_rows (lines_of rs ss) 0 (subst (InPreorder 0) (sym (levels_same rs ss t.long)) t.ordered)

lines_set : (rs : List Row) (ss : List Side) (n : ℕ) (w : Row)
    → lines_of (slice_set rs n w) ss ≡ changed (lines_of rs ss) n w
lines_set [] ss n w = refl
lines_set (r ∷ rs) [] zero w = refl
lines_set (r ∷ rs) [] (suc n) w = refl
lines_set (r ∷ rs) (s ∷ ss) zero w = refl
lines_set (r ∷ rs) (s ∷ ss) (suc n) w = ap (λ ls. line_of r s ∷ ls) (lines_set rs ss n w)

pub written : (head : Submodel) (rs : List Row) (ss : List Side) (n : ℕ) (w : Row) (d : Submodel)
    → IsTable rs ss → submodel_of head rs ss ≡ d → submodel_of head (slice_set rs n w) ss ≡ with_row d n w
written head rs ss n w d t is =
    ap (λ ls. record head { kids = trees_of ls })
    (lines_set rs ss n w ∙ ap (λ ls. changed ls n w) (sym (rows_same head rs ss t)))
    ∙ ap (λ (d : Submodel). with_row d n w) is

line_at_rank : (rs : List Row) (ss : List Side) (n : ℕ) (w : Row) → length rs ≡ length ss → slice_get rs n ≡ Some w
    → (l : Line) × (slice_get (lines_of rs ss) n ≡ Some l) × (with_own l w ≡ l)
line_at_rank [] ss n w e is = absurd (cc)
line_at_rank (r ∷ rs) [] n w e is = absurd (omega arith)
line_at_rank (r ∷ rs) (s ∷ ss) zero w e is =
    let same : r ≡ w = cc in
    (line_of r s, refl, ap (λ r. line_of r s) (sym same))
line_at_rank (r ∷ rs) (s ∷ ss) (suc n) w e is = line_at_rank rs ss n w (omega arith) is

pub lent_row : (head : Submodel) (rs : List Row) (ss : List Side) (n : ℕ) (w : Row) (d : Submodel)
    → IsTable rs ss → submodel_of head rs ss ≡ d → slice_get rs n ≡ Some w → IsRow d n w
lent_row head rs ss n w d t is at =
    let l = line_at_rank rs ss n w t.long at in (
      l.0,
      ap (λ (d : Submodel). slice_get (rows_of_all d.kids 1) n) (sym is)
          ∙ ap (λ ls. slice_get ls n) (rows_same head rs ss t) ∙ l.1,
      l.2,
    )

pub lines_long : (rs : List Row) (ss : List Side) → length rs ≡ length ss → length (lines_of rs ss) ≡ length rs
lines_long [] ss e = refl
lines_long (r ∷ rs) [] e = absurd (omega arith)
lines_long (r ∷ rs) (s ∷ ss) e = ap suc (lines_long rs ss (omega arith))

pub long_rows : (head : Submodel) (rs : List Row) (ss : List Side) (d : Submodel)
    → IsTable rs ss → submodel_of head rs ss ≡ d → length (rows_of_all d.kids 1) ≡ length rs
long_rows head rs ss d t is =
    ap (λ (d : Submodel). length (rows_of_all d.kids 1)) (sym is)
    ∙ ap length (rows_same head rs ss t) ∙ lines_long rs ss t.long

pub row_found : (r : Option (MutBor Row)) (head : Submodel) (rs : List Row) (ss : List Side) (n : ℕ) (d : Submodel)
    → IsTable rs ss → submodel_of head rs ss ≡ d → option_copied_mut r ≡ slice_get rs n
    → MatchOption r (length (rows_of_all d.kids 1) ≤ n) (λ r. IsRow d n r.now)
row_found None head rs ss n d t is e =
    let out = past_end rs n (sym e) in
    omega (arith, out, long_rows head rs ss d t is)
row_found (Some x) head rs ss n d t is e = lent_row head rs ss n x.now d t is (sym e)
