-- Columns that are spliced together.
use Rattle.std.proofs.Common.{◌≡◌, ℕ, ◌+◌, List, [], ◌∷◌, ◌++◌, length, take, drop, refl, sym, ap, ap₂, ◌∙◌}
use Rattle.std.proofs.Common.{arith, length-append}
use Rattle.std.specs.List.{remove_range, replace_range}
use Rattle.std.proofs.lemmas.List.{append-nil}
use Rattle.aas_rows.specs.Rows.{Line}
use Rattle.aas_sheet_index.specs.Sides.{measured}
use Rattle.aas_sheet_index.specs.declared.side.Side.{Side}
use Rattle.aas_sheet_index.proofs.Measures.{measured_long}
use Rattle.aas_sheet_index.proofs.Spliced.{drop_seam, take_seam}
use Rattle.aas_sheet_rows.specs.Table.{line_of, lines_of}
use Rattle.aas_sheet_rows.specs.declared.row.Row.{Row}
use Rattle.aas_sheet_rows.proofs.Found.{lines_drop, lines_take, same_drop, same_take}
use Rattle.aas_sheet_rows.proofs.Loans.{lines_long}
use Rattle.aas_sheet_rows.proofs.Made.{lines_measured}

lines_two : (xs ys : List Row) (zs ws : List Side)
    → length xs ≡ length zs → lines_of (xs ++ ys) (zs ++ ws) ≡ lines_of xs zs ++ lines_of ys ws
lines_two [] ys [] ws e = refl
lines_two [] ys (z ∷ zs) ws e = absurd (omega arith)
lines_two (x ∷ xs) ys [] ws e = absurd (omega arith)
lines_two (x ∷ xs) ys (z ∷ zs) ws e = ap (λ ls. line_of x z ∷ ls) (lines_two xs ys zs ws (omega arith))

pub lines_replaced : (rs new : List Row) (ss more : List Side) (first end : ℕ)
    → length rs ≡ length ss → length new ≡ length more
    → lines_of (replace_range rs first end new) (replace_range ss first end more)
    ≡ replace_range (lines_of rs ss) first end (lines_of new more)
lines_replaced rs new ss more first end long also =
    let front = same_take first rs ss long in
    let both : length (take first rs ++ new) ≡ length (take first ss ++ more) =
    length-append (take first rs) new ∙ ap₂ (λ m n. m + n) front also ∙ sym (length-append (take first ss) more) in
    lines_two (take first rs ++ new) (drop end rs) (take first ss ++ more) (drop end ss) both
    ∙ ap₂ (λ x y. x ++ y)
    (lines_two (take first rs) new (take first ss) more front
    ∙ ap (λ ls. ls ++ lines_of new more) (lines_take first rs ss))
    (lines_drop end rs ss long)

pub long_replaced : (rs new : List Row) (ss more : List Side) (first end : ℕ)
    → length rs ≡ length ss → length new ≡ length more
    → length (replace_range rs first end new) ≡ length (replace_range ss first end more)
long_replaced rs new ss more first end long also =
    length-append (take first rs ++ new) (drop end rs)
    ∙ ap₂ (λ m n. m + n)
    (length-append (take first rs) new ∙ ap₂ (λ m n. m + n) (same_take first rs ss long) also
    ∙ sym (length-append (take first ss) more))
    (same_drop end rs ss long)
    ∙ sym (length-append (take first ss ++ more) (drop end ss))

-- as many sides as rows
pub put_long : (rs new : List Row) (ss more : List Side) (ls : List Line) (first end : ℕ)
    → length rs ≡ length ss → length new ≡ length more → lines_of new more ≡ ls
    → length (replace_range ss first end more) ≡ length (replace_range (lines_of rs ss) first end ls)
put_long rs new ss more ls first end long also are =
    sym (long_replaced rs new ss more first end long also)
    ∙ sym (lines_long (replace_range rs first end new) (replace_range ss first end more)
    (long_replaced rs new ss more first end long also))
    ∙ ap length (lines_replaced rs new ss more first end long also ∙ ap (replace_range (lines_of rs ss) first end) are)

-- rows that were put behind the others, and then into the place of some, and their sides
pub put_lines : (rs new rs₁ rs₂ : List Row) (ss more ss₂ : List Side) (ls : List Line) (n first end : ℕ)
    → n ≡ length rs → length rs ≡ length ss → length new ≡ length more → lines_of new more ≡ ls → rs₁ ≡ rs ++ new
    → rs₂ ≡ replace_range (take n rs₁) first end (drop n rs₁) → ss₂ ≡ measured (replace_range ss first end more)
    → (lines_of rs₂ ss₂ ≡ replace_range (lines_of rs ss) first end ls) × (length rs₂ ≡ length ss₂)
put_lines rs new rs₁ rs₂ ss more ss₂ ls n first end count long also are appended rows_are sides_are =
    let rows : rs₂ ≡ replace_range rs first end new = rows_are
    ∙ ap₂ (λ xs ys. replace_range xs first end ys) (take_seam rs₁ rs new n appended (sym count))
    (drop_seam rs₁ rs new n appended (sym count)) in (
      ap₂ lines_of rows sides_are ∙ lines_measured (replace_range rs first end new) (replace_range ss first end more)
          ∙ lines_replaced rs new ss more first end long also
          ∙ ap (replace_range (lines_of rs ss) first end) are,
      ap length rows ∙ long_replaced rs new ss more first end long also
          ∙ sym (ap length sides_are ∙ measured_long (replace_range ss first end more)),
    )

-- rows that were taken out, and their sides
pub removed_lines : (rs rs₂ : List Row) (ss ss₂ : List Side) (n first end : ℕ) → n ≡ length rs → length rs ≡ length ss
    → rs₂ ≡ replace_range (take n rs) first end (drop n rs) → ss₂ ≡ measured (remove_range ss first end)
    → (lines_of rs₂ ss₂ ≡ remove_range (lines_of rs ss) first end) × (length rs₂ ≡ length ss₂)
removed_lines rs rs₂ ss ss₂ n first end count long rows_are sides_are =
    let put =
    put_lines rs [] (rs ++ []) rs₂ ss [] ss₂ [] n first end count long refl refl refl
    (rows_are ∙ ap (λ xs. replace_range (take n xs) first end (drop n xs)) (sym (append-nil rs)))
    (sides_are ∙ ap (λ xs. measured (xs ++ drop end ss)) (sym (append-nil (take first ss)))) in
    (put.0 ∙ ap (λ xs. xs ++ drop end (lines_of rs ss)) (append-nil (take first (lines_of rs ss))), put.1)
