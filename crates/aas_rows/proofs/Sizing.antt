-- The sizes of rows are those of their elements with all below them.
use Rattle.std.proofs.Common.{◌≡◌, ℕ, zero, suc, ◌+◌, ◌<◌, ◌≤◌, Bool, true, false, nat_lt, List, [], ◌∷◌, ◌++◌, length, Some, slice_get, refl, ap, ◌∙◌, append_assoc, arith, length-append, if◌then◌else◌, le-ltb, lt-ltb}
use Rattle.aas_model.specs.declared.element.Element.{Element}
use Rattle.aas_path_trees.specs.Children.{kids_of}
use Rattle.aas_rows.specs.Rows.{Line, rows, rows_of_all, levels_of, count_deeper, sizes, BeginsRows}
use Rattle.aas_rows.proofs.Trees.{rows_out, Every, by_kids, every}

Counted : Element → Type 0
Counted e = (k j : ℕ) (rest : List Line) → k < j → count_deeper k (levels_of (rows e j ++ rest)) ≡ length (rows e j) + count_deeper k (levels_of rest)

counted_all : (es : List Element) → Every Counted es → (k j : ℕ) (rest : List Line) → k < j
    → count_deeper k (levels_of (rows_of_all es j ++ rest)) ≡ length (rows_of_all es j) + count_deeper k (levels_of rest)
unfolding Counted
counted_all [] h k j rest lt = omega arith
counted_all (e ∷ es) h k j rest lt =
    let here = ap (λ rs. count_deeper k (levels_of rs)) (append_assoc (rows e j) (rows_of_all es j) rest) ∙ h.0 k j (rows_of_all es j ++ rest) lt in
    let more = counted_all es h.1 k j rest lt in
    omega (arith, here, more, length-append (rows e j) (rows_of_all es j))

counted : (e : Element) → Every Counted (kids_of e) → Counted e
unfolding Counted
counted e h k j rest lt =
    let below = counted_all (kids_of e) h k (j + 1) rest (omega arith) in
    let kid_rows : List Line = rows_of_all (kids_of e) (j + 1) in
    let long : length (rows e j) ≡ suc (length kid_rows) = ap length (rows_out e j) in
    let own : count_deeper k (levels_of (rows e j ++ rest)) ≡ 1 + count_deeper k (levels_of (kid_rows ++ rest)) =
    ap (λ rs. count_deeper k (levels_of (rs ++ rest))) (rows_out e j) ∙ ap (λ b. if b then 1 + count_deeper k (levels_of (kid_rows ++ rest)) else 0) (lt-ltb k j lt) in
    omega (arith, below, long, own)

none_deeper : (k : ℕ) (rest : List Line) → BeginsRows k rest → count_deeper k (levels_of rest) ≡ 0
none_deeper k [] h = refl
none_deeper k (r ∷ rest) h = ap (λ b. if b then 1 + count_deeper k (levels_of rest) else 0) (le-ltb k r.level h)

-- the size at the first row of an element
pub size_first : (e : Element) (k : ℕ) (rest : List Line) → BeginsRows k rest → slice_get (sizes (levels_of (rows e k ++ rest))) 0 ≡ Some (length (rows e k))
size_first e k rest b =
    let kid_rows : List Line = rows_of_all (kids_of e) (k + 1) in
    let below = counted_all (kids_of e) (every Counted (by_kids Counted counted) (kids_of e)) k (k + 1) rest (omega arith) in
    let nothing = none_deeper k rest b in
    let long : length (rows e k) ≡ suc (length kid_rows) = ap length (rows_out e k) in
    let same : 1 + count_deeper k (levels_of (kid_rows ++ rest)) ≡ length (rows e k) = omega (arith, below, nothing, long) in
    ap (λ rs. slice_get (sizes (levels_of (rs ++ rest))) 0) (rows_out e k) ∙ ap (λ n. Some n) same

pub size_at : (before : List Line) (e : Element) (k : ℕ) (rest : List Line) → BeginsRows k rest → slice_get (sizes (levels_of (before ++ (rows e k ++ rest)))) (length before) ≡ Some (length (rows e k))
size_at [] e k rest b = size_first e k rest b
size_at (r ∷ before) e k rest b = size_at before e k rest b

pub at_most : (k : ℕ) (ls : List ℕ) → count_deeper k ls ≤ length ls
at_most k [] = omega arith
at_most k (l ∷ ls) = by (nat_lt k l) (at_most k ls)
  where
    by : (b : Bool) → count_deeper k ls ≤ length ls → (if b then 1 + count_deeper k ls else 0) ≤ suc (length ls)
    by true h = omega arith
    by false h = omega arith

-- no size passes the end
pub size_inside : (ls : List ℕ) (n s : ℕ) → slice_get (sizes ls) n ≡ Some s → n + s ≤ length ls
size_inside [] n s e = absurd (cc)
size_inside (l ∷ ls) zero s e = let same : 1 + count_deeper l ls ≡ s = cc in let le = at_most l ls in omega (arith, le)
size_inside (l ∷ ls) (suc n) s e = let more = size_inside ls n s e in omega (arith, more)

pub size_positive : (ls : List ℕ) (n s : ℕ) → slice_get (sizes ls) n ≡ Some s → 0 < s
size_positive [] n s e = absurd (cc)
size_positive (l ∷ ls) zero s e = let same : 1 + count_deeper l ls ≡ s = cc in omega arith
size_positive (l ∷ ls) (suc n) s e = size_positive ls n s e
