-- Sizes from levels, from the last row to the first.
use Rattle.std.proofs.Common.{◌≡◌, ℕ, zero, suc, ◌+◌, ◌-◌, ◌<◌, ◌≤◌, Bool, true, false, nat_lt, List, [], ◌∷◌, ◌++◌}
use Rattle.std.proofs.Common.{length, take, drop, get_or, Some, slice_get, slice_index_or, slice_set, refl, subst, sym}
use Rattle.std.proofs.Common.{ap, ap₂, ◌∙◌, arith, if◌then◌else◌, length-drop, le-ltb, lt-ltb}
use Rattle.std.specs.List.{All}
use Rattle.std.proofs.lemmas.Bool.Decides.{Decides-ltb}
use Rattle.std.proofs.lemmas.List.{drop_all, take-append-drop, take-set, length-set}
use Rattle.std.proofs.lemmas.List.Elements.{All-cons, All-head, All-tail}
use Rattle.aas_lemmas.proofs.Lists.{drop_at}
use Rattle.aas_rows.specs.Rows.{count_deeper, sizes}
use Rattle.aas_sheet_index.specs.Index.{AreKeyed, IsKeyed}
use Rattle.aas_sheet_index.specs.Sides.{levels, measured, sizes_of, AreMeasured, HaveLevels}
use Rattle.aas_sheet_index.specs.declared.side.Side.{Side}

-- ---- one size

-- what stands deeper than l stands deeper than k, and what is left is counted behind it
skip : (k l : ℕ) (ls : List ℕ)
    → k ≤ l → count_deeper k ls ≡ count_deeper l ls + count_deeper k (drop (count_deeper l ls) ls)
skip k l [] le = refl
skip k l (x ∷ ls) le = by (nat_lt l x) refl (skip k l ls le)
  where
    next : (n : ℕ) → 1 + n ≡ suc n
    next n = omega arith

    by : (b : Bool)
        → nat_lt l x ≡ b → count_deeper k ls ≡ count_deeper l ls + count_deeper k (drop (count_deeper l ls) ls)
        → count_deeper k (x ∷ ls)
        ≡ (if b then 1 + count_deeper l ls else 0)
        + count_deeper k (drop (if b then 1 + count_deeper l ls else 0) (x ∷ ls))
    by true e more =
        let lt : l < x = (Decides-ltb l x).0 e in
        let own : count_deeper k (x ∷ ls) ≡ 1 + count_deeper k ls =
        ap (λ b. if b then 1 + count_deeper k ls else 0) (lt-ltb k x (omega arith)) in
        let behind : count_deeper k (drop (1 + count_deeper l ls) (x ∷ ls))
        ≡ count_deeper k (drop (count_deeper l ls) ls) =
        ap (λ n. count_deeper k (drop n (x ∷ ls))) (next (count_deeper l ls)) in
        omega (arith, own, more, behind)
    by false e more = omega arith

levels_drop : (n : ℕ) (ss : List Side) → levels (drop n ss) ≡ drop n (levels ss)
levels_drop zero ss = refl
levels_drop (suc n) [] = refl
levels_drop (suc n) (s ∷ ss) = levels_drop n ss

pub drop_more : (m n : ℕ) (xs : List Side) → drop m (drop n xs) ≡ drop (n + m) xs
drop_more m zero xs = ap (λ k. drop k xs) (none m)
  where
    none : (m : ℕ) → m ≡ 0 + m
    none m = omega arith
drop_more m (suc n) [] = empty m ∙ sym (empty (suc n + m))
  where
    empty : (k : ℕ) → drop {A = Side} k [] ≡ []
    empty zero = refl
    empty (suc k) = refl
drop_more m (suc n) (x ∷ xs) = drop_more m n xs ∙ ap (λ k. drop k (x ∷ xs)) (next n m)
  where
    next : (n m : ℕ) → suc (n + m) ≡ suc n + m
    next n m = omega arith

pub count_most : (k : ℕ) (xs : List Side) → count_deeper k (levels xs) ≤ length xs
count_most k [] = omega arith
count_most k (x ∷ xs) = by (nat_lt k x.level) (count_most k xs)
  where
    by : (b : Bool) → count_deeper k (levels xs) ≤ length xs
        → (if b then 1 + count_deeper k (levels xs) else 0) ≤ suc (length xs)
    by true h = omega arith
    by false h = omega arith

-- counted up to end: the rows from the first on stand deeper than k
pub record Counted (ss : List Side) (k first end : ℕ) : Type 0 where
  pub above : first ≤ end
  pub inside : end ≤ length ss
  pub counts : count_deeper k (levels (drop first ss)) ≡ end - first + count_deeper k (levels (drop end ss))

size_head : (ss : List Side) (first n : ℕ) (s : Side) → sizes_of (drop first ss) ≡ sizes (levels (drop first ss))
    → first ≤ n → n < length ss → s ≡ get_or ss n s → s.size ≡ 1 + count_deeper s.level (levels (drop (n + 1) ss))
size_head ss first n s known le lt is =
    by (n - first) (drop first ss) known
    (drop_more (n - first) first ss ∙ ap (λ m. drop m ss) back ∙ drop_at ss n s lt is)
  where
    back : first + (n - first) ≡ n
    back = omega arith

    by : (m : ℕ) (xs : List Side) → sizes_of xs ≡ sizes (levels xs) → drop m xs ≡ s ∷ drop (n + 1) ss
        → s.size ≡ 1 + count_deeper s.level (levels (drop (n + 1) ss))
    by zero xs known is =
        let same : sizes_of (s ∷ drop (n + 1) ss) ≡ sizes (levels (s ∷ drop (n + 1) ss)) =
        subst (λ xs. sizes_of xs ≡ sizes (levels xs)) is known in
        cc
    by (suc m) [] known is = absurd (cc)
    by (suc m) (x ∷ xs) known is = let rest : sizes_of xs ≡ sizes (levels xs) = cc in by m xs rest is

pub count_on : (ss : List Side) (k first end : ℕ) (s : Side) → sizes_of (drop first ss) ≡ sizes (levels (drop first ss))
    → Counted ss k first end → end < length ss → s ≡ get_or ss end s → k < s.level
    → Counted ss k first (end + s.size) × (0 < s.size)
count_on ss k first end s known c lt is deep =
    let size : s.size ≡ 1 + count_deeper s.level (levels (drop (end + 1) ss)) =
    size_head ss first end s known c.above lt is in
    let n : ℕ = count_deeper s.level (levels (drop (end + 1) ss)) in
    let here : count_deeper k (levels (drop end ss)) ≡ 1 + count_deeper k (levels (drop (end + 1) ss)) =
    ap (λ ss. count_deeper k (levels ss)) (drop_at ss end s lt is)
    ∙ ap (λ b. if b then 1 + count_deeper k (levels (drop (end + 1) ss)) else 0) (lt-ltb k s.level deep) in
    let more : count_deeper k (levels (drop (end + 1) ss)) ≡ n + count_deeper k (drop n (levels (drop (end + 1) ss))) =
    skip k s.level (levels (drop (end + 1) ss)) (omega arith) in
    let next : end + 1 + n ≡ end + s.size = omega arith in
    let left : drop n (levels (drop (end + 1) ss)) ≡ levels (drop (end + s.size) ss) =
    sym (levels_drop n (drop (end + 1) ss)) ∙ ap levels (drop_more n (end + 1) ss ∙ ap (λ m. drop m ss) next) in
    let far : end + 1 + n ≤ length ss = within ss s.level (end + 1) (omega arith) in
    let counts = c.counts in
    let rest = ap (count_deeper k) left in (
      record {
        above = omega (arith, c.above);
        inside = omega arith;
        counts = omega (arith, counts, here, more, rest, size, c.above);
      },
      omega arith,
    )
  where
    within : (ss : List Side) (k m : ℕ) → m ≤ length ss → m + count_deeper k (levels (drop m ss)) ≤ length ss
    within ss k m le = let most = count_most k (drop m ss) in let long = length-drop m ss in omega (arith, most, long)

-- where no row is left, or the next stands no deeper, all are counted
pub counted_at_end : (ss : List Side) (k first : ℕ) (end : ℕ)
    → Counted ss k first end → length ss ≤ end → end - first ≡ count_deeper k (levels (drop first ss))
counted_at_end ss k first end c le =
    let none = ap (λ ss. count_deeper k (levels ss)) (drop_all end ss le) in
    let counts = c.counts in
    omega (arith, none, counts)

pub counted_before : (ss : List Side) (k first end : ℕ) (s : Side) → Counted ss k first end
    → end < length ss → s ≡ get_or ss end s → s.level ≤ k → end - first ≡ count_deeper k (levels (drop first ss))
counted_before ss k first end s c lt is le =
    let none : count_deeper k (levels (drop end ss)) ≡ 0 =
    ap (λ ss. count_deeper k (levels ss)) (drop_at ss end s lt is)
    ∙ ap (λ b. if b then 1 + count_deeper k (levels (drop (end + 1) ss)) else 0) (le-ltb k s.level le) in
    let counts = c.counts in
    omega (arith, none, counts)

pub size_is : (ss : List Side) (n size : ℕ) (s : Side) → n < length ss → s ≡ get_or ss n s
    → size ≡ 1 + count_deeper s.level (levels (drop (n + 1) ss)) → slice_get (sizes (levels ss)) n ≡ Some size
size_is ss n size s lt is same = by ss n lt (drop_at ss n s lt is) ∙ ap (λ n. Some n) (sym same)
  where
    by : (xs : List Side) (m : ℕ) → m < length xs → drop m xs ≡ s ∷ drop (n + 1) ss
        → slice_get (sizes (levels xs)) m ≡ Some (1 + count_deeper s.level (levels (drop (n + 1) ss)))
    by [] m lt is = absurd (omega arith)
    by (x ∷ xs) zero lt is = ap (λ (ys : List Side). slice_get (sizes (levels ys)) 0) is
    by (x ∷ xs) (suc m) lt is = by xs m (omega arith) is

-- ---- all sizes

pub measured_levels : (ss : List Side) → levels (measured ss) ≡ levels ss
measured_levels [] = refl
measured_levels (s ∷ ss) = ap (λ ls. s.level ∷ ls) (measured_levels ss)

pub measured_sizes : (ss : List Side) → sizes_of (measured ss) ≡ sizes (levels ss)
measured_sizes [] = refl
measured_sizes (s ∷ ss) = ap (λ ns. (1 + count_deeper s.level (levels ss)) ∷ ns) (measured_sizes ss)

pub known_behind : (ss start : List Side) (n : ℕ)
    → drop n ss ≡ measured (drop n start) → sizes_of (drop n ss) ≡ sizes (levels (drop n ss))
known_behind ss start n is =
    ap sizes_of is ∙ measured_sizes (drop n start) ∙ ap sizes (sym (ap levels is ∙ measured_levels (drop n start)))

pub sized_measured : (ss : List Side) → AreMeasured (measured ss)
sized_measured ss = measured_sizes ss ∙ ap sizes (sym (measured_levels ss))

-- what holds of a side, whatever its size
kept_measured : (P : Side → Type 0)
    → ((s : Side) (n : ℕ) → P s → P (record s { size = n })) → (ss : List Side) → All P ss → All P (measured ss)
kept_measured P h [] all = all
kept_measured P h (s ∷ ss) all =
    let n : ℕ = 1 + count_deeper s.level (levels ss) in
    All-cons P (record s { size = n }) (measured ss)
    (h s n (All-head P s ss all)) (kept_measured P h ss (All-tail P s ss all))

pub have_measured : (ss : List Side) → HaveLevels ss → HaveLevels (measured ss)
have_measured = kept_measured (λ s. 0 < s.level) (λ s n h. h)

pub keyed_measured : (ss : List Side) → AreKeyed ss → AreKeyed (measured ss)
keyed_measured = kept_measured IsKeyed (λ s n h. h)

-- sizes depend on what stands behind alone
pub measured_back : (xs ys : List Side) → AreMeasured (xs ++ ys) → AreMeasured ys
measured_back [] ys known = known
measured_back (x ∷ xs) ys known = let rest : AreMeasured (xs ++ ys) = cc in measured_back xs ys rest

pub drop_measured : (n : ℕ) (ss : List Side) → drop n (measured ss) ≡ measured (drop n ss)
drop_measured zero ss = refl
drop_measured (suc n) [] = refl
drop_measured (suc n) (s ∷ ss) = drop_measured n ss

-- the sides from a place on have their sizes, and those before it are as they were
pub record Measuring (start ss : List Side) (n : ℕ) : Type 0 where
  pub inside : n ≤ length ss
  pub before : take n ss ≡ take n start
  pub behind : drop n ss ≡ measured (drop n start)

pub measured_long : (ss : List Side) → length (measured ss) ≡ length ss
measured_long [] = refl
measured_long (s ∷ ss) = ap suc (measured_long ss)

measured_one : (m : ℕ) (start ss : List Side) (size : ℕ) (d : Side) → take (suc m) ss ≡ take (suc m) start
    → drop (suc m) ss ≡ measured (drop (suc m) start) → m < length ss → slice_get (sizes (levels ss)) m ≡ Some size
    → drop m (slice_set ss m (record (slice_index_or ss m d) { size = size })) ≡ measured (drop m start)
measured_one m start [] size d front behind lt is = absurd (omega arith)
measured_one zero [] (s ∷ ss) size d front behind lt is = absurd (cc)
measured_one (suc m) [] (s ∷ ss) size d front behind lt is = absurd (cc)
measured_one zero (x ∷ start) (s ∷ ss) size d front behind lt is =
    let own : s ≡ x = cc in
    let same : 1 + count_deeper s.level (levels ss) ≡ size = cc in
    let below : levels ss ≡ levels start = ap levels behind ∙ measured_levels start in
    ap₂ (λ n xs. record s { size = n } ∷ xs) (sym same ∙ ap (λ ls. 1 + count_deeper s.level ls) below) behind
    ∙ ap (λ (s : Side). record s { size = 1 + count_deeper s.level (levels start) } ∷ measured start) own
measured_one (suc m) (x ∷ start) (s ∷ ss) size d front behind lt is =
    let rest : take (suc m) ss ≡ take (suc m) start = cc in measured_one m start ss size d rest behind (omega arith) is

shorter : (m : ℕ) (xs ys : List Side) → take (suc m) xs ≡ take (suc m) ys → take m xs ≡ take m ys
shorter zero xs ys e = refl
shorter (suc m) [] [] e = refl
shorter (suc m) [] (y ∷ ys) e = absurd (cc)
shorter (suc m) (x ∷ xs) [] e = absurd (cc)
shorter (suc m) (x ∷ xs) (y ∷ ys) e =
    let first : x ≡ y = cc in
    let rest : take (suc m) xs ≡ take (suc m) ys = cc in
    ap₂ (λ z zs. z ∷ zs) first (shorter m xs ys rest)

pub measuring_on : (start ss : List Side) (n m size : ℕ) (d : Side)
    → n ≡ suc m → Measuring start ss n → slice_get (sizes (levels ss)) m ≡ Some size
    → Measuring start (slice_set ss m (record (slice_index_or ss m d) { size = size })) m
measuring_on start ss n m size d next so_far is =
    let x : Side = record (slice_index_or ss m d) { size = size } in
    let inside : suc m ≤ length ss = subst (λ n. n ≤ length ss) next so_far.inside in
    let long = length-set ss m x in record {
      inside = omega (arith, inside, long);
      before = take-set ss m x ∙ shorter m ss start (subst (λ n. take n ss ≡ take n start) next so_far.before);
      behind =
          measured_one m start ss size d (subst (λ n. take n ss ≡ take n start) next so_far.before)
          (subst (λ n. drop n ss ≡ measured (drop n start)) next so_far.behind) inside is;
    }

-- ---- where measuring begins and ends

pub measured_known : (ss : List Side) → AreMeasured ss → measured ss ≡ ss
measured_known [] known = refl
measured_known (s ∷ ss) known =
    let own : s.size ≡ 1 + count_deeper s.level (levels ss) = cc in
    let rest : AreMeasured ss = cc in
    ap₂ (λ n xs. record s { size = n } ∷ xs) (sym own) (measured_known ss rest)

pub measuring_begun : (start : List Side) (n : ℕ)
    → n ≤ length start → AreMeasured (drop n start) → Measuring start start n
measuring_begun start n le known =
    record { inside = le; before = refl; behind = sym (measured_known (drop n start) known) }

pub measuring_done : (start ss : List Side) (n : ℕ)
    → Measuring start ss n → ss ≡ take n start ++ measured (drop n start)
measuring_done start ss n m = sym (take-append-drop n ss) ∙ ap₂ (λ xs ys. xs ++ ys) m.before m.behind
