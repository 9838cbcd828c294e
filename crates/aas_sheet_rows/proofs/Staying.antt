use Rattle.std.proofs.Common.{◌≡◌, ℕ, zero, suc, List, [], ◌∷◌, refl, sym, ap, subst}
use Rattle.aas_rows.specs.Rows.{Line, rows_of_all, levels_of, InPreorder}
use Rattle.aas_rows.proofs.Back.{trees_give_rows}
use Rattle.aas_rows.proofs.InOrder.{rows_in_preorder}
use Rattle.aas_sheet_rows.specs.Changed.{changed}
use Rattle.aas_sheet_rows.specs.Laws.{OthersStay}
use Rattle.aas_sheet_rows.specs.declared.row.Row.{Row}

same_levels : (rs : List Line) (n : ℕ) (w : Row) → levels_of (changed rs n w) ≡ levels_of rs
same_levels [] n w = refl
same_levels (r ∷ rs) zero w = refl
same_levels (r ∷ rs) (suc n) w = ap (λ ls. r.level ∷ ls) (same_levels rs n w)

pub others_stay : OthersStay
others_stay d n w =
    trees_give_rows (changed (rows_of_all d.kids 1) n w) 0
    (subst (InPreorder 0) (sym (same_levels (rows_of_all d.kids 1) n w)) (rows_in_preorder d.kids 0))
