-- Ranks that are dropped one by one.
use Rattle.std.proofs.Common.{◌≡◌, ℕ, zero, suc, ◌+◌, ◌-◌, ◌<◌, ◌≤◌, ◌⊎◌, inl, inr, Bool, true, false, cond, not}
use Rattle.std.proofs.Common.{nat_lt, ◌==◌, ◌&&◌, ◌||◌, List, [], ◌∷◌, ◌++◌, length, get_or, take, drop, remove, refl}
use Rattle.std.proofs.Common.{sym, ap, ap₂, ◌∙◌, subst, arith, length-append, le-ltb, lt-ltb}
use Rattle.std.specs.List.{All, AllByRecursion, AllWithin, filter}
use Rattle.std.specs.List.Sorted.{IsSorted}
use Rattle.std.proofs.lemmas.Bool.{cases_lt, cases_order}
use Rattle.std.proofs.lemmas.Bool.Decides.{Decides-eqb}
use Rattle.std.proofs.lemmas.List.{length-take-le, take-append-drop}
use Rattle.std.proofs.lemmas.List.Elements.{All-from_recursion, filter-append, recursion_from_All}
use Rattle.std.proofs.lemmas.List.Kept.{IsSortedBy-filter}
use Rattle.std.proofs.Math.Bool.{and-false, or-true}
use Rattle.aas_lemmas.proofs.Truth.{and_left}
use Rattle.aas_sheet_index.specs.Index.{has_name, is_between, key_at, order, Waiting}
use Rattle.aas_sheet_index.specs.Moving.{is_other, stays}
use Rattle.aas_sheet_index.specs.declared.side.Side.{Side}
use Rattle.aas_sheet_index.proofs.Moved.{filter_all}
use Rattle.aas_sheet_index.proofs.Ordered.{is_less, weak}
use Rattle.aas_sheet_index.proofs.Ranks.{apart, each_listed, is_within}
use Rattle.aas_sheet_index.proofs.Rising.{each_both, each_weaker, rises_from_sorted, Rises}
use Rattle.aas_sheet_index.proofs.Searched.{between, tied}
use Rattle.aas_sheet_index.proofs.Spliced.{drop_seam, take_seam}

-- ---- one rank

abbrev AreOther : ℕ → List ℕ → Type 0
AreOther x ys = AllByRecursion (λ y. (y == x) ≡ false) ys

-- behind one that isn't x there is no x
abbrev Gathered : ℕ → List ℕ → Type 0
Gathered x [] = Unit {0}
Gathered x (y ∷ ys) = ((y ≡ x → ⊥) → AreOther x ys) × Gathered x ys

-- the same from a place on, and before it there is no x
abbrev pub GatheredAt : ℕ → ℕ → List ℕ → Type 0
GatheredAt x zero ys = Gathered x ys
GatheredAt x (suc n) [] = Unit {0}
GatheredAt x (suc n) (y ∷ ys) = ((y == x) ≡ false) × GatheredAt x n ys

pub gathered_less : (x n : ℕ) (ys : List ℕ) → GatheredAt x n ys → GatheredAt x n (remove ys n)
gathered_less x zero [] g = tt
gathered_less x zero (y ∷ ys) g = g.1
gathered_less x (suc n) [] g = tt
gathered_less x (suc n) (y ∷ ys) g = (g.0, gathered_less x n ys g.1)

pub filter_less : (x n : ℕ) (ys : List ℕ) (d : ℕ) → n < length ys → get_or ys n d ≡ x
    → filter (is_other x) (remove ys n) ≡ filter (is_other x) ys
filter_less x n [] d lt is = absurd (omega arith)
filter_less x zero (y ∷ ys) d lt is =
    sym (ap (λ b. cond (not b) (y ∷ filter (is_other x) ys) (filter (is_other x) ys)) ((Decides-eqb y x).1 is))
filter_less x (suc n) (y ∷ ys) d lt is =
    ap (λ zs. cond (is_other x y) (y ∷ zs) zs) (filter_less x n ys d (omega arith) is)

none_there : (x n : ℕ) (ys : List ℕ) (d : ℕ)
    → GatheredAt x n ys → (n < length ys → get_or ys n d ≡ x → ⊥) → AreOther x ys
none_there x zero [] d g h = tt
none_there x zero (y ∷ ys) d g h = let other = h (omega arith) in (apart y x other, g.0 other)
none_there x (suc n) [] d g h = tt
none_there x (suc n) (y ∷ ys) d g h = (g.0, none_there x n ys d g.1 (λ lt. h (omega arith)))

-- where another stands at the place, or none, nothing is left to drop
pub gathered_none : (x n : ℕ) (ys : List ℕ) (d : ℕ) → GatheredAt x n ys → (n < length ys → get_or ys n d ≡ x → ⊥)
    → filter (is_other x) ys ≡ ys
gathered_none x n ys d g h =
    filter_all (is_other x) ys
    (each_weaker (λ y. (y == x) ≡ false) (λ y. is_other x y ≡ true) (λ y e. ap not e) ys (none_there x n ys d g h))

loose : (x : ℕ) (ys : List ℕ) → AreOther x ys → Gathered x ys
loose x [] a = tt
loose x (y ∷ ys) a = (λ ne. a.1, loose x ys a.1)

module _ (ss : List Side) (x : ℕ) (zs : List ℕ) (others : AreOther x zs) where
  gathered_from : (ys : List ℕ) → Rises (is_less ss) ys → AllByRecursion (λ y. is_less ss y x ≡ false) ys
      → Gathered x (ys ++ zs)
  gathered_from [] up high = loose x zs others
  gathered_from (y ∷ ys) up high = (
    λ ne. each_both (λ z. (z == x) ≡ false) ys zs
        (each_weaker (λ z. is_less ss z y ≡ false) (λ z. (z == x) ≡ false)
        (λ z e. apart z x (λ same. ne (equal z e same))) ys up.0)
        others,
    gathered_from ys up.1 high.1,
  )
    where
      equal : (z : ℕ) → is_less ss z y ≡ false → z ≡ x → y ≡ x
      equal z e same =
          let b = between (key_at ss x) (key_at ss y) x y x high.0 (ap (λ n. is_less ss n y) (sym same) ∙ e) in
          let low : x ≤ y = b.1 in
          let up : y ≤ x = b.2 in
          omega (arith, low, up)

  gathered_at : (ys : List ℕ) (n : ℕ) → n ≤ length ys → Rises (is_less ss) ys
      → AllWithin (λ y. is_less ss y x ≡ true) ys 0 n → AllWithin (λ y. is_less ss y x ≡ false) ys n (length ys)
      → GatheredAt x n (ys ++ zs)
  gathered_at ys zero inside up low high =
      gathered_from ys up
      (recursion_from_All (λ y. is_less ss y x ≡ false) ys (λ k d within. high k d (omega arith) within))
  gathered_at [] (suc n) inside up low high = absurd (omega arith)
  gathered_at (y ∷ ys) (suc n) inside up low high = (
    apart y x other,
    gathered_at ys n (omega arith) up.1 (λ k d a b. low (suc k) d (omega arith) (omega arith))
        (λ k d a b. high (suc k) d (omega arith) (omega arith)),
  )
    where
      other : y ≡ x → ⊥
      other same =
          let less : is_less ss x x ≡ true =
          ap (λ n. is_less ss n x) (sym same) ∙ low 0 y (omega arith) (omega arith) in
          let never : nat_lt x x ≡ false = le-ltb x x (omega arith) in
          let is = tied (key_at ss x) x x in
          absurd (cc)

-- the place that a search finds
pub gathered : (ss : List Side) (x n kept : ℕ) (ranks read : List ℕ) → read ≡ ranks → kept ≤ length ranks
    → IsSorted (order ss) (take kept ranks) → All (λ r. (r == x) ≡ false) (drop kept ranks)
    → n ≤ length (take kept read)
    → AllWithin (λ r. is_less ss r x ≡ true) (take kept read) 0 n
    → AllWithin (λ r. is_less ss r x ≡ false) (take kept read) n (length (take kept read)) → GatheredAt x n ranks
gathered ss x n kept ranks read is inside sorted others front low high =
    let ahead : List ℕ = take kept read in
    let whole : ahead ++ drop kept ranks ≡ ranks =
    ap (λ ys. take kept ys ++ drop kept ranks) is ∙ take-append-drop kept ranks in
    let rising = subst (IsSorted (order ss)) (sym (ap (take kept) is)) sorted in
    subst (GatheredAt x n) whole
    (gathered_at ss x (drop kept ranks)
    (recursion_from_All (λ r. (r == x) ≡ false) (drop kept ranks) others) ahead n front
    (rises_from_sorted (is_less ss) (weak ss) ahead rising) low high)

-- ---- one rank after the other

filter_both : (p q both : ℕ → Bool) → ((x : ℕ) → both x ≡ (p x && q x)) → (xs : List ℕ)
    → filter q (filter p xs) ≡ filter both xs
filter_both p q both says [] = refl
filter_both p q both says (x ∷ xs) = by (p x) (says x) (filter_both p q both says xs)
  where
    by : (b : Bool) → both x ≡ (b && q x) → filter q (filter p xs) ≡ filter both xs
        → filter q (cond b (x ∷ filter p xs) (filter p xs)) ≡ cond (both x) (x ∷ filter both xs) (filter both xs)
    by true e rest = ap₂ (λ c ys. cond c (x ∷ ys) ys) (sym e) rest
    by false e rest = rest ∙ sym (ap (λ c. cond c (x ∷ filter both xs) (filter both xs)) e)

one_less : (first i r : ℕ) → first ≤ i → stays first (i + 1) r ≡ (stays first i r && is_other i r)
one_less first i r le = by (cases_lt r first) (cases_order r i)
  where
    by : ((r < first) ⊎ (first ≤ r)) → ((r ≡ i) ⊎ ((r < i) ⊎ (i < r)))
        → stays first (i + 1) r ≡ (stays first i r && is_other i r)
    by (inl low) h =
        ap (λ b. b || not (nat_lt r (i + 1))) (lt-ltb r first low)
        ∙ sym
        (ap₂ (λ b c. (b || not (nat_lt r i)) && not c) (lt-ltb r first low) (apart r i (λ e. absurd (omega arith))))
    by (inr high) (inl same) =
        ap₂ (λ b c. b || not c) (le-ltb r first high) (lt-ltb r (i + 1) (omega arith))
        ∙ sym (ap (λ b. stays first i r && not b) ((Decides-eqb r i).1 same) ∙ and-false (stays first i r))
    by (inr high) (inr (inl low)) =
        ap₂ (λ b c. b || not c) (le-ltb r first high) (lt-ltb r (i + 1) (omega arith))
        ∙ sym (ap₂ (λ b c. (b || not c) && is_other i r) (le-ltb r first high) (lt-ltb r i low))
    by (inr high) (inr (inr up)) =
        ap₂ (λ b c. b || not c) (le-ltb r first high) (le-ltb r (i + 1) (omega arith))
        ∙ sym (ap₂ (λ b c. (b || not c) && is_other i r) (le-ltb r first high) (le-ltb r i (omega arith))
        ∙ ap not (apart r i (λ e. absurd (omega arith))))

pub dropped_more : (first i : ℕ) (ranks now new : List ℕ) → first ≤ i → now ≡ filter (stays first i) ranks
    → new ≡ filter (is_other i) now → new ≡ filter (stays first (i + 1)) ranks
dropped_more first i ranks now new le so_far is =
    is ∙ ap (filter (is_other i)) so_far
    ∙ filter_both (stays first i) (is_other i) (stays first (i + 1)) (λ r. one_less first i r le) ranks

-- ---- what is left beside the ranks that wait

pub record Left (ss : List Side) (count : ℕ) (now : List ℕ) (added kept : ℕ) : Type 0 where
  pub room : added ≤ length now
  pub inside : kept ≤ length now
  pub sorted : IsSorted (order (take count ss)) (take kept now)
  pub low : AllByRecursion (λ r. r < count) (take kept now)
  pub high : AllByRecursion (λ r. count ≤ r) (drop kept now)

each_filtered : (P : ℕ → Type 0) (p : ℕ → Bool) (xs : List ℕ) → AllByRecursion P xs → AllByRecursion P (filter p xs)
each_filtered P p [] a = tt
each_filtered P p (x ∷ xs) a = by (p x) (each_filtered P p xs a.1)
  where
    by : (b : Bool) → AllByRecursion P (filter p xs) → AllByRecursion P (cond b (x ∷ filter p xs) (filter p xs))
    by true rest = (a.0, rest)
    by false rest = rest

pub left : (ss : List Side) (first end count added kept : ℕ) (ranks now : List ℕ) → Waiting ss count ranks added
    → end ≤ count → count ≤ length ss → now ≡ filter (stays first end) ranks
    → kept ≡ length now - added → Left ss count now added kept
left ss first end count added kept ranks now w end_in inside is at =
    let p : ℕ → Bool = stays first end in
    let parts : now ≡ filter p w.kept ++ w.fresh =
    is ∙ ap (filter p) w.is ∙ filter-append p w.kept w.fresh
    ∙ ap (λ ys. filter p w.kept ++ ys) (filter_all p w.fresh stay) in
    let all = ap length parts ∙ length-append (filter p w.kept) w.fresh in
    let long = w.long in
    let front : length (filter p w.kept) ≡ kept = omega (arith, all, long, at) in
    let ahead = take_seam now (filter p w.kept) w.fresh kept parts front in record {
      room = omega (arith, all, long);
      inside = omega (arith, all, front);
      sorted = subst (IsSorted (order (take count ss))) (sym ahead)
          (IsSortedBy-filter (is_less (take count ss)) (weak (take count ss)) p w.kept w.index.ordered);
      low = subst (AllByRecursion (λ r. r < count)) (sym ahead) (each_filtered (λ r. r < count) p w.kept old);
      high =
          subst (AllByRecursion (λ r. count ≤ r)) (sym (drop_seam now (filter p w.kept) w.fresh kept parts front)) new;
    }
  where
    old : AllByRecursion (λ r. r < count) w.kept
    old =
        let old_long = length-take-le count ss inside in
        each_listed (λ r. r < count) w.kept
        (λ r e.
        let n : ℕ = length (take count ss) in
        let i = is_within 0 n r (and_left (is_between 0 n r) (has_name _) (sym (w.index.listed r) ∙ e)) in
        let lt : r < n = i.1 in omega (arith, old_long, lt))

    new : AllByRecursion (λ r. count ≤ r) w.fresh
    new =
        each_listed (λ r. count ≤ r) w.fresh
        (λ r e.
        let n : ℕ = length ss in
        (is_within count n r (and_left (is_between count n r) (has_name _) (sym (w.part.listed r) ∙ e))).0)

    stay : AllByRecursion (λ r. stays first end r ≡ true) w.fresh
    stay =
        each_weaker (λ r. count ≤ r) (λ r. stays first end r ≡ true)
        (λ r low.
        ap (λ b. nat_lt r first || not b) (le-ltb r end (omega (arith, low, end_in))) ∙ or-true (nat_lt r first))
        w.fresh new

-- none of those that wait is the rank i
pub others_wait : (ss : List Side) (count i added kept : ℕ) (now : List ℕ) → Left ss count now added kept → i < count
    → All (λ r. (r == i) ≡ false) (drop kept now)
others_wait ss count i added kept now l lt =
    All-from_recursion (λ r. (r == i) ≡ false) (drop kept now)
    (each_weaker (λ r. count ≤ r) (λ r. (r == i) ≡ false)
    (λ r low. apart r i (λ e. absurd (omega arith))) (drop kept now) l.high)
