-- Trees that are grown from the last row to the first.
use Rattle.std.proofs.Common.{◌≡◌, ℕ, zero, suc, ◌+◌, ◌-◌, ◌<◌, ◌≤◌, true, nat_lt, List, [], ◌∷◌, ◌++◌, length, take}
use Rattle.std.proofs.Common.{drop, get_or, remove, Some, slice_get, refl, sym, ap, ap₂, ◌∙◌, append_assoc}
use Rattle.std.proofs.Common.{arith, if◌then◌else◌}
use Rattle.aas_model.specs.declared.element.Element.{Element}
use Rattle.aas_rows.specs.Rows.{Line, Placed, deeper, beside, forest, element_of}
use Rattle.aas_sheet_rows.specs.Growing.{placed_of, first_is_deeper, top_is_deeper, rows_between}
use Rattle.aas_sheet_rows.specs.Table.{line_of, lines_of}
use Rattle.aas_sheet_rows.specs.declared.tree.Tree.{Tree}
use Rattle.aas_sheet_rows.specs.declared.row.Row.{Row}
use Rattle.aas_sheet_index.specs.declared.side.Side.{Side}
use Rattle.aas_sheet_rows.proofs.Found.{line_there}

pub placed_push : (gs : List Tree) (g : Tree) → placed_of (gs ++ g ∷ []) ≡ (g.level, g.element) ∷ placed_of gs
placed_push [] g = refl
placed_push (h ∷ gs) g = ap (λ ps. ps ++ (h.level, h.element) ∷ []) (placed_push gs g)

-- the last is the top
pub placed_last : (gs : List Tree) (m : ℕ) (g : Tree)
    → suc m ≡ length gs → slice_get gs m ≡ Some g → placed_of gs ≡ (g.level, g.element) ∷ placed_of (remove gs m)
placed_last [] m g n e = absurd (omega arith)
placed_last (h ∷ []) zero g n e = let same : h ≡ g = cc in ap (λ (x : Tree). placed_of (x ∷ [])) same
placed_last (h ∷ k ∷ gs) zero g n e = absurd (omega arith)
placed_last (h ∷ gs) (suc m) g n e = ap (λ ps. ps ++ (h.level, h.element) ∷ []) (placed_last gs m g (omega arith) e)

abbrev pub top_of : Tree → Placed
top_of g = (g.level, g.element)

pub top_test : (k : ℕ) (gs : List Tree) (n : ℕ) (g : Tree)
    → n ≡ length gs → 0 < n → Some g ≡ slice_get gs (n - 1) → nat_lt k g.level ≡ top_is_deeper k gs
top_test k gs n g is some e =
    let long : suc (n - 1) ≡ length gs = omega arith in
    sym (ap (first_is_deeper k) (placed_last gs (n - 1) g long (sym e)))

pub top_there : (k : ℕ) (gs : List Tree) → top_is_deeper k gs ≡ true → 0 < length gs
top_there k [] e = absurd (cc)
top_there k (g ∷ gs) e = omega arith

-- one more is adopted
pub record Adopting (k : ℕ) (start gs : List Tree) (kids : List Element) : Type 0 where
  pub kids_are : deeper k (placed_of start) ≡ kids ++ deeper k (placed_of gs)
  pub rest_is : beside k (placed_of start) ≡ beside k (placed_of gs)

pub adopt_one : (k : ℕ) (start gs gs' : List Tree) (kids kids' : List Element) (m : ℕ) (g : Tree)
    → Adopting k start gs kids → top_is_deeper k gs ≡ true
    → suc m ≡ length gs → slice_get gs m ≡ Some g → gs' ≡ remove gs m
    → kids' ≡ kids ++ g.element ∷ [] → Adopting k start gs' kids'
adopt_one k start gs gs' kids kids' m g a test long at gs_is kids_is =
    let parts : placed_of gs ≡ top_of g ∷ placed_of gs' =
    placed_last gs m g long at ∙ ap (λ gs. top_of g ∷ placed_of gs) (sym gs_is) in
    let holds : nat_lt k g.level ≡ true = sym (ap (first_is_deeper k) parts) ∙ test in record {
      kids_are =
          a.kids_are ∙ ap (λ ps. kids ++ deeper k ps) parts
          ∙ ap (λ b. kids ++ (if b then g.element ∷ deeper k (placed_of gs') else [])) holds
          ∙ sym (append_assoc kids (g.element ∷ []) (deeper k (placed_of gs')))
          ∙ ap (λ ks. ks ++ deeper k (placed_of gs')) (sym kids_is);
      rest_is =
          a.rest_is ∙ ap (beside k) parts
          ∙ ap (λ b. if b then beside k (placed_of gs') else top_of g ∷ placed_of gs') holds;
    }

-- ---- one row more

cut_cons : (xs : List Line) (at end : ℕ) (x : Line)
    → at < end → slice_get xs at ≡ Some x → drop at (take end xs) ≡ x ∷ drop (at + 1) (take end xs)
cut_cons [] at end x lt e = absurd (cc)
cut_cons (y ∷ xs) at zero x lt e = absurd (omega arith)
cut_cons (y ∷ xs) zero (suc end) x lt e = let same : y ≡ x = cc in ap (λ y. y ∷ take end xs) same
cut_cons (y ∷ xs) (suc at) (suc end) x lt e =
    let next : suc at + 1 ≡ suc (at + 1) = omega arith in
    cut_cons xs at end x (omega arith) e ∙ ap (λ n. x ∷ drop n (y ∷ take end xs)) (sym next)

pub grow_more : (rs : List Row) (ss : List Side) (at end : ℕ) (row : Row) (side : Side)
    (old mid : List Placed) (new : List Tree) (g : Tree) (kids : List Element)
    → length rs ≡ length ss → at < end → end ≤ length ss
    → row ≡ get_or rs at row → side ≡ get_or ss at side → old ≡ forest (rows_between rs ss (at + 1) end)
    → kids ≡ deeper side.level old → placed_of new ≡ beside side.level old
    → g.level ≡ side.level → g.element ≡ element_of (line_of row side) kids
    → placed_of (new ++ g ∷ []) ≡ forest (rows_between rs ss at end)
unfolding forest
grow_more rs ss at end row side old mid new g kids long lt inside row_is side_is before kids_are rest level element =
    let x : Line = line_of row side in
    let there : slice_get (lines_of rs ss) at ≡ Some x =
    line_there rs ss at row side long (omega arith) ∙ (λ i. Some (line_of (sym row_is i) (sym side_is i))) in
    let cut : rows_between rs ss at end ≡ x ∷ rows_between rs ss (at + 1) end =
    cut_cons (lines_of rs ss) at end x lt there in
    placed_push new g
    ∙ (λ i. (level i, element i) ∷ placed_of new)
    ∙ ap₂ (λ ks ps. (side.level, element_of x ks) ∷ ps) kids_are rest
    ∙ ap (λ ps. (side.level, element_of x (deeper side.level ps)) ∷ beside side.level ps) before
    ∙ ap forest (sym cut)

cut_none : (xs : List Line) (n : ℕ) → drop n (take n xs) ≡ []
cut_none xs zero = refl
cut_none [] (suc n) = refl
cut_none (x ∷ xs) (suc n) = cut_none xs n

pub nothing_grown : (rs : List Row) (ss : List Side) (end : ℕ) → [] ≡ forest (rows_between rs ss end end)
unfolding forest
nothing_grown rs ss end = sym (ap forest (cut_none (lines_of rs ss) end))

-- one row alone grows to its element without children
pub grown_alone : (rs : List Row) (ss : List Side) (at end : ℕ)
    (row : Row) (side : Side) (kids : List Element) (x : Element)
    → length rs ≡ length ss → at < length ss → end ≡ at + 1
    → row ≡ get_or rs at row → side ≡ get_or ss at side → kids ≡ []
    → x ≡ element_of (line_of row side) kids → (side.level, x) ∷ [] ≡ forest (rows_between rs ss at end)
grown_alone rs ss at end row side kids x long lt stop row_is side_is none is =
    grow_more rs ss at end row side [] [] []
    (record { level = side.level; element = x }) kids long (omega arith) (omega arith) row_is
    side_is (nothing_grown rs ss end ∙ ap (λ n. forest (rows_between rs ss n end)) stop) none refl refl is
