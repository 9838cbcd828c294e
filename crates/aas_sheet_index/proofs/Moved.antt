-- Ranks that move with their sides.
use Rattle.std.proofs.Common.{◌≡◌, ℕ, zero, suc, ◌+◌, ◌-◌, ◌<◌, ◌≤◌, ◌⊎◌, inl, inr, Bool, true, false, cond, not}
use Rattle.std.proofs.Common.{nat_lt, ◌==◌, ◌&&◌, ◌||◌, List, [], ◌∷◌, ◌++◌, length, map, slice_get, refl, sym, ap, ap₂}
use Rattle.std.proofs.Common.{◌∙◌, arith, length-append, if◌then◌else◌, le-ltb, lt-ltb}
use Rattle.std.specs.Cmp.Lexicographic.{slice_cmp}
use Rattle.std.specs.List.{AllByRecursion, filter, list_any}
use Rattle.std.specs.List.Sorted.{IsSorted}
use Rattle.std.specs.Ordering.{nat_cmp, is_lt, ordering_then}
use Rattle.std.specs.declared.cmp.Ordering.{Ordering}
use Rattle.std.specs.declared.cmp.Ordering.TheVariants.{Less, Equal, Greater}
use Rattle.std.proofs.lemmas.Bool.{cases_lt, ltb-false, ltb-true}
use Rattle.std.proofs.lemmas.Bool.Decides.{Decides-eqb}
use Rattle.std.proofs.lemmas.List.{length-map}
use Rattle.std.proofs.lemmas.List.Folds.{list_any-append}
use Rattle.std.proofs.Math.Bool.{or-false, or-true}
use Rattle.aas_lemmas.proofs.Truth.{and_left}
use Rattle.aas_sheet_index.specs.Index.{compared, has_name, is_between, key_at, key_of, order, IsPart, Listed}
use Rattle.aas_sheet_index.specs.Moving.{moved, renumbered, stays}
use Rattle.aas_sheet_index.specs.declared.side.Side.{Side}
use Rattle.aas_sheet_index.proofs.Ranks.{apart, each_listed, is_within, too_high, within}
use Rattle.aas_sheet_index.proofs.Ordered.{is_less, numbers, weak}
use Rattle.aas_sheet_index.proofs.Rising.{Rises, each_weaker, rises_from_sorted, sorted_from_rises}

-- ---- lists that are filtered and mapped

module _ (lt lt' : ℕ → ℕ → Bool) (p : ℕ → Bool) (f : ℕ → ℕ) (Q : ℕ → Type 0)
    (same : (r q : ℕ) → Q r → Q q → p r ≡ true → p q ≡ true → lt' (f r) (f q) ≡ lt r q) where
  none_less : (x : ℕ) → Q x → p x ≡ true → (xs : List ℕ) → AllByRecursion Q xs → AllByRecursion (λ y. lt y x ≡ false) xs
      → AllByRecursion (λ y. lt' y (f x) ≡ false) (map f (filter p xs))
  none_less x q s [] a b = tt
  none_less x q s (y ∷ ys) a b = by (p y) refl (none_less x q s ys a.1 b.1)
    where
      by : (c : Bool) → p y ≡ c → AllByRecursion (λ y. lt' y (f x) ≡ false) (map f (filter p ys))
          → AllByRecursion (λ y. lt' y (f x) ≡ false) (map f (cond c (y ∷ filter p ys) (filter p ys)))
      by true is rest = (same y x a.0 q is s ∙ b.0, rest)
      by false is rest = rest

  rises_moved : (xs : List ℕ) → AllByRecursion Q xs → Rises lt xs → Rises lt' (map f (filter p xs))
  rises_moved [] a r = tt
  rises_moved (x ∷ xs) a r = by (p x) refl (rises_moved xs a.1 r.1)
    where
      by : (c : Bool) → p x ≡ c → Rises lt' (map f (filter p xs))
          → Rises lt' (map f (cond c (x ∷ filter p xs) (filter p xs)))
      by true is rest = (none_less x a.0 is xs a.1 r.0, rest)
      by false is rest = rest

module _ (p : ℕ → Bool) (f : ℕ → ℕ) (Q : ℕ → Type 0) (to : ℕ) where
  any_moved : (from : ℕ) → ((x : ℕ) → Q x → p x ≡ true → f x ≡ to → x ≡ from)
      → p from ≡ true → f from ≡ to → (xs : List ℕ) → AllByRecursion Q xs
      → list_any (λ q. q == to) (map f (filter p xs)) ≡ list_any (λ q. q == from) xs
  any_moved from only here goes [] a = refl
  any_moved from only here goes (x ∷ xs) a = by (p x) refl (any_moved from only here goes xs a.1)
    where
      tests : p x ≡ true → (c : Bool) → (f x == to) ≡ c → c ≡ (x == from)
      tests is true e = sym ((Decides-eqb x from).1 (only x a.0 is ((Decides-eqb (f x) to).0 e)))
      tests is false e =
          sym (apart x from (λ same. let holds = (Decides-eqb (f x) to).1 (ap f same ∙ goes) in absurd (cc)))

      by : (c : Bool) → p x ≡ c → list_any (λ q. q == to) (map f (filter p xs)) ≡ list_any (λ q. q == from) xs
          → list_any (λ q. q == to) (map f (cond c (x ∷ filter p xs) (filter p xs)))
          ≡ ((x == from) || list_any (λ q. q == from) xs)
      by true is rest = ap₂ (λ c d. c || d) (tests is (f x == to) refl) rest
      by false is rest = rest ∙ sym (ap (λ c. c || list_any (λ q. q == from) xs)
          (apart x from (λ same. let holds = ap p same ∙ here in absurd (cc))))

  any_unmoved : ((x : ℕ) → Q x → p x ≡ true → f x ≡ to → ⊥) → (xs : List ℕ)
      → AllByRecursion Q xs → list_any (λ q. q == to) (map f (filter p xs)) ≡ false
  any_unmoved never [] a = refl
  any_unmoved never (x ∷ xs) a = by (p x) refl (any_unmoved never xs a.1)
    where
      by : (c : Bool) → p x ≡ c → list_any (λ q. q == to) (map f (filter p xs)) ≡ false
          → list_any (λ q. q == to) (map f (cond c (x ∷ filter p xs) (filter p xs))) ≡ false
      by true is rest = ap₂ (λ c d. c || d) (apart (f x) to (never x a.0 is)) rest
      by false is rest = rest

pub filter_all : (p : ℕ → Bool) (xs : List ℕ) → AllByRecursion (λ x. p x ≡ true) xs → filter p xs ≡ xs
filter_all p [] a = refl
filter_all p (x ∷ xs) a = ap (λ c. cond c (x ∷ filter p xs) (filter p xs)) a.0 ∙ ap (λ ys. x ∷ ys) (filter_all p xs a.1)

get_front : (xs ys : List Side) (r : ℕ) → r < length xs → slice_get (xs ++ ys) r ≡ slice_get xs r
get_front [] ys r lt = absurd (omega arith)
get_front (x ∷ xs) ys zero lt = refl
get_front (x ∷ xs) ys (suc r) lt = get_front xs ys r (omega arith)

get_back : (xs ys : List Side) (n r i : ℕ) → length xs ≡ n → n + i ≡ r → slice_get (xs ++ ys) r ≡ slice_get ys i
get_back [] ys n r i long sum = let same : r ≡ i = omega arith in ap (slice_get ys) same
get_back (x ∷ xs) ys n zero i long sum = absurd (omega arith)
get_back (x ∷ xs) ys n (suc r) i long sum = get_back xs ys (length xs) r i refl (omega arith)

less_same : (a a' b b' : List ℕ) (m n m' n' : ℕ)
    → a' ≡ a → b' ≡ b → nat_lt m' n' ≡ nat_lt m n → is_lt (compared a' m' b' n') ≡ is_lt (compared a m b n)
less_same a a' b b' m n m' n' p q e = ap₂ (λ a b. is_lt (compared a m' b n')) p q ∙ by (slice_cmp nat_cmp a b)
  where
    by : (o : Ordering) → is_lt (ordering_then o (nat_cmp m' n')) ≡ is_lt (ordering_then o (nat_cmp m n))
    by Less = refl
    by Equal = numbers m' n' ∙ e ∙ sym (numbers m n)
    by Greater = refl

lt_same : (m n m' n' : ℕ) → (m < n → m' < n') → (n ≤ m → n' ≤ m') → nat_lt m' n' ≡ nat_lt m n
lt_same m n m' n' up down = by (cases_lt m n)
  where
    by : ((m < n) ⊎ (n ≤ m)) → nat_lt m' n' ≡ nat_lt m n
    by (inl lt) = lt-ltb m' n' (up lt) ∙ sym (lt-ltb m n lt)
    by (inr le) = le-ltb m' n' (down le) ∙ sym (le-ltb m n le)

-- ---- sides in four parts: those before, those that go, those behind, and those that come

pub record Cut (b m t w : List Side) (first end count total : ℕ) : Type 0 where
  pub at_first : length b ≡ first
  pub at_end : first + length m ≡ end
  pub at_count : end + length t ≡ count
  pub at_total : count + length w ≡ total

-- where a rank of the front goes
data Goes (first end count total r to : ℕ) : Type 0 where
  put : r < first → to ≡ r → Goes first end count total r to
  shifted : end ≤ r → to ≡ r - (end - first) + (total - count) → Goes first end count total r to

module _ (b m t w : List Side) (first end count total : ℕ) (cut : Cut b m t w first end count total) where
  old_long : length (b ++ (m ++ t)) ≡ count
  old_long =
      let e = length-append b (m ++ t) in
      let g = length-append m t in
      omega (arith, e, g, cut.at_first, cut.at_end, cut.at_count)

  all_long : length ((b ++ (m ++ t)) ++ w) ≡ total
  all_long = length-append (b ++ (m ++ t)) w ∙ ap (λ n. n + length w) old_long ∙ cut.at_total

  front_long : length (b ++ w) ≡ first + length w
  front_long = length-append b w ∙ ap (λ n. n + length w) cut.at_first

  new_long : length ((b ++ w) ++ t) ≡ first + length w + length t
  new_long = length-append (b ++ w) t ∙ ap (λ n. n + length t) front_long

  low_to : (r : ℕ) → r < first → moved first end count total r ≡ r
  low_to r lt =
      ap (λ c. if c then r else if nat_lt r count then r - (end - first) + (total - count) else r - (count - first))
      (lt-ltb r end (omega (arith, lt, cut.at_end)))

  mid_to : (r : ℕ) → end ≤ r → r < count → moved first end count total r ≡ r - (end - first) + (total - count)
  mid_to r le lt =
      ap (λ c. if c then r else if nat_lt r count then r - (end - first) + (total - count) else r - (count - first))
      (le-ltb r end le)
      ∙ ap (λ c. if c then r - (end - first) + (total - count) else r - (count - first)) (lt-ltb r count lt)

  high_to : (r : ℕ) → count ≤ r → moved first end count total r ≡ r - (count - first)
  high_to r le =
      ap (λ c. if c then r else if nat_lt r count then r - (end - first) + (total - count) else r - (count - first))
      (le-ltb r end (omega (arith, le, cut.at_count)))
      ∙ ap (λ c. if c then r - (end - first) + (total - count) else r - (count - first)) (le-ltb r count le)

  stays_low : (r : ℕ) → r < first → stays first end r ≡ true
  stays_low r lt = ap (λ c. c || not (nat_lt r end)) (lt-ltb r first lt)

  stays_high : (r : ℕ) → end ≤ r → stays first end r ≡ true
  stays_high r le = ap (λ c. nat_lt r first || not c) (le-ltb r end le) ∙ or-true (nat_lt r first)

  goes : (r : ℕ) → r < count → stays first end r ≡ true → Goes first end count total r (moved first end count total r)
  goes r lt s = by (nat_lt r first) refl (nat_lt r end) refl s
    where
      by : (c : Bool) → nat_lt r first ≡ c → (d : Bool)
          → nat_lt r end ≡ d → (c || not d) ≡ true → Goes first end count total r (moved first end count total r)
      by true is d e s = put (ltb-true r first is) (low_to r (ltb-true r first is))
      by false is true e s = absurd (cc)
      by false is false e s = shifted (ltb-false r end e) (mid_to r (ltb-false r end e) lt)

  -- ---- each rank takes its side along

  carried_low : (r : ℕ) → r < first → slice_get ((b ++ w) ++ t) r ≡ slice_get (b ++ (m ++ t)) r
  carried_low r lt =
      get_front (b ++ w) t r (omega (arith, front_long, lt)) ∙ get_front b w r (omega (arith, cut.at_first, lt))
      ∙ sym (get_front b (m ++ t) r (omega (arith, cut.at_first, lt)))

  carried_mid : (r : ℕ)
      → end ≤ r → r < count → slice_get ((b ++ w) ++ t) (moved first end count total r) ≡ slice_get (b ++ (m ++ t)) r
  carried_mid r le lt =
      let i : ℕ = r - end in
      let to = mid_to r le lt in
      get_back (b ++ w) t (first + length w) (moved first end count total r) i front_long
      (omega (arith, to, le, cut.at_end, cut.at_total))
      ∙ sym (get_back b (m ++ t) first r (length m + i) cut.at_first (omega (arith, le, cut.at_end))
      ∙ get_back m t (length m) (length m + i) i refl refl)

  carried_high : (r : ℕ) → count ≤ r → r < total
      → slice_get ((b ++ w) ++ t) (moved first end count total r) ≡ slice_get ((b ++ (m ++ t)) ++ w) r
  carried_high r le lt =
      let i : ℕ = r - count in
      let to = high_to r le in
      let ordered : first ≤ count = omega (arith, cut.at_end, cut.at_count) in
      get_front (b ++ w) t (moved first end count total r)
      (omega (arith, to, front_long, le, lt, ordered, cut.at_total))
      ∙ get_back b w first (moved first end count total r) i cut.at_first (omega (arith, to, le, ordered))
      ∙ sym (get_back (b ++ (m ++ t)) w count r i old_long (omega (arith, le)))

  front_get : (r : ℕ) → r < count → stays first end r ≡ true
      → slice_get ((b ++ w) ++ t) (moved first end count total r) ≡ slice_get (b ++ (m ++ t)) r
  front_get r lt s = by (goes r lt s)
    where
      by : Goes first end count total r (moved first end count total r)
          → slice_get ((b ++ w) ++ t) (moved first end count total r) ≡ slice_get (b ++ (m ++ t)) r
      by (put l e) = ap (slice_get ((b ++ w) ++ t)) e ∙ carried_low r l
      by (shifted l e) = carried_mid r l lt

  -- ---- the order stays

  front_order : (r q : ℕ) → r < count → q < count → stays first end r ≡ true → stays first end q ≡ true
      → nat_lt (moved first end count total r) (moved first end count total q) ≡ nat_lt r q
  front_order r q r_in q_in r_stays q_stays =
      by (moved first end count total r) (goes r r_in r_stays) (moved first end count total q) (goes q q_in q_stays)
    where
      ordered : first ≤ end
      ordered = omega (arith, cut.at_end)

      by : (r' : ℕ) → Goes first end count total r r' → (q' : ℕ)
          → Goes first end count total q q' → nat_lt r' q' ≡ nat_lt r q
      by r' (put a e) q' (put c f) = lt_same r q r' q' (λ h. omega (arith, e, f, h)) (λ h. omega (arith, e, f, h))
      by r' (put a e) q' (shifted c f) =
          lt_same r q r' q' (λ h. omega (arith, e, f, a, c, ordered)) (λ h. absurd (omega (arith, a, c, h, ordered)))
      by r' (shifted a e) q' (put c f) =
          lt_same r q r' q' (λ h. absurd (omega (arith, a, c, h, ordered))) (λ h. omega (arith, e, f, a, c, ordered))
      by r' (shifted a e) q' (shifted c f) =
          lt_same r q r' q' (λ h. omega (arith, e, f, a, c, h, ordered)) (λ h. omega (arith, e, f, a, c, h, ordered))

  front_same : (r q : ℕ) → r < count → q < count → stays first end r ≡ true → stays first end q ≡ true
      → is_less ((b ++ w) ++ t) (moved first end count total r) (moved first end count total q)
      ≡ is_less (b ++ (m ++ t)) r q
  front_same r q r_in q_in r_stays q_stays =
      less_same (key_at (b ++ (m ++ t)) r) (key_at ((b ++ w) ++ t) (moved first end count total r))
      (key_at (b ++ (m ++ t)) q) (key_at ((b ++ w) ++ t) (moved first end count total q)) r q
      (moved first end count total r) (moved first end count total q) (ap key_of (front_get r r_in r_stays))
      (ap key_of (front_get q q_in q_stays)) (front_order r q r_in q_in r_stays q_stays)

  back_same : (r q : ℕ)
      → (count ≤ r) × (r < total) → (count ≤ q) × (q < total) → stays first end r ≡ true → stays first end q ≡ true
      → is_less ((b ++ w) ++ t) (moved first end count total r) (moved first end count total q)
      ≡ is_less ((b ++ (m ++ t)) ++ w) r q
  back_same r q r_in q_in r_stays q_stays =
      let to_r = high_to r r_in.0 in
      let to_q = high_to q q_in.0 in
      let ordered : first ≤ count = omega (arith, cut.at_end, cut.at_count) in
      let r_low : count ≤ r = r_in.0 in
      let q_low : count ≤ q = q_in.0 in
      less_same (key_at ((b ++ (m ++ t)) ++ w) r) (key_at ((b ++ w) ++ t) (moved first end count total r))
      (key_at ((b ++ (m ++ t)) ++ w) q) (key_at ((b ++ w) ++ t) (moved first end count total q)) r q
      (moved first end count total r) (moved first end count total q)
      (ap key_of (carried_high r r_in.0 r_in.1)) (ap key_of (carried_high q q_in.0 q_in.1))
      (lt_same r q (moved first end count total r) (moved first end count total q)
      (λ h. omega (arith, to_r, to_q, h, ordered, r_low, q_low))
      (λ h. omega (arith, to_r, to_q, h, ordered, r_low, q_low)))

  module _ (front back : List ℕ) (x : IsPart (b ++ (m ++ t)) 0 front)
      (y : IsPart ((b ++ (m ++ t)) ++ w) count back) where
    in_front : AllByRecursion (λ r. r < count) front
    in_front =
        each_listed (λ r. r < count) front (λ r e.
        let i = is_within 0 (length (b ++ (m ++ t))) r (and_left (is_between 0 (length (b ++ (m ++ t))) r)
        (has_name (slice_get (b ++ (m ++ t)) r)) (sym (x.listed r) ∙ e)) in
        omega (arith, old_long, i.1))

    in_back : AllByRecursion (λ r. (count ≤ r) × (r < total)) back
    in_back =
        each_listed (λ r. (count ≤ r) × (r < total)) back
        (λ r e.
        let i = is_within count (length ((b ++ (m ++ t)) ++ w)) r
        (and_left (is_between count (length ((b ++ (m ++ t)) ++ w)) r)
        (has_name (slice_get ((b ++ (m ++ t)) ++ w) r)) (sym (y.listed r) ∙ e)) in
        (i.0, omega (arith, all_long, i.1)))

    pub back_long : length (renumbered first end count total back) ≡ length back
    back_long =
        length-map (filter (stays first end) back) (moved first end count total)
        ∙ ap length
        (filter_all (stays first end) back
        (each_weaker (λ r. (count ≤ r) × (r < total)) (λ r. stays first end r ≡ true)
        (λ r h. let low : count ≤ r = h.0 in stays_high r (omega (arith, low, cut.at_count))) back in_back))

    pub front_sorted : IsSorted (order ((b ++ w) ++ t)) (renumbered first end count total front)
    front_sorted =
        sorted_from_rises (is_less ((b ++ w) ++ t)) (renumbered first end count total front)
        (rises_moved (is_less (b ++ (m ++ t))) (is_less ((b ++ w) ++ t)) (stays first end)
        (moved first end count total) (λ r. r < count) front_same front in_front
        (rises_from_sorted (is_less (b ++ (m ++ t))) (weak (b ++ (m ++ t))) front x.ordered))

    pub back_sorted : IsSorted (order ((b ++ w) ++ t)) (renumbered first end count total back)
    back_sorted =
        sorted_from_rises (is_less ((b ++ w) ++ t)) (renumbered first end count total back)
        (rises_moved (is_less ((b ++ (m ++ t)) ++ w)) (is_less ((b ++ w) ++ t)) (stays first end)
        (moved first end count total) (λ r. (count ≤ r) × (r < total)) back_same back in_back
        (rises_from_sorted (is_less ((b ++ (m ++ t)) ++ w)) (weak ((b ++ (m ++ t)) ++ w)) back y.ordered))

    -- ---- each rank is there

    any_front : (r from : ℕ) → from < count → stays first end from ≡ true → moved first end count total from ≡ r
        → list_any (λ q. q == r) (renumbered first end count total front) ≡ has_name (slice_get ((b ++ w) ++ t) r)
    any_front r from inside s to =
        any_moved (stays first end) (moved first end count total) (λ r. r < count) r from
        (λ z z_in z_stays e. only z (moved first end count total z) (goes z z_in z_stays)
        (moved first end count total from) (goes from inside s) (e ∙ sym to))
        s to front in_front
        ∙ x.listed from
        ∙ ap₂ (λ c d. c && d) (within 0 (length (b ++ (m ++ t))) from (omega arith) (omega (arith, inside, old_long)))
        (ap has_name (sym (front_get from inside s) ∙ ap (slice_get ((b ++ w) ++ t)) to))
      where
        ordered : first ≤ end
        ordered = omega (arith, cut.at_end)

        only : (z z' : ℕ) → Goes first end count total z z' → (f' : ℕ)
            → Goes first end count total from f' → z' ≡ f' → z ≡ from
        only z z' (put a e) f' (put c g) same = omega (arith, e, g, same)
        only z z' (put a e) f' (shifted c g) same = absurd (omega (arith, e, g, same, a, c, ordered))
        only z z' (shifted a e) f' (put c g) same = absurd (omega (arith, e, g, same, a, c, ordered))
        only z z' (shifted a e) f' (shifted c g) same = omega (arith, e, g, same, a, c, ordered)

    none_front : (r : ℕ) → ((z z' : ℕ) → z < count → Goes first end count total z z' → z' ≡ r → ⊥)
        → list_any (λ q. q == r) (renumbered first end count total front) ≡ false
    none_front r never =
        any_unmoved (stays first end) (moved first end count total) (λ r. r < count) r
        (λ z z_in z_stays e. never z (moved first end count total z) z_in (goes z z_in z_stays) e) front in_front

    any_back : (r from : ℕ) → count ≤ from → from < total → moved first end count total from ≡ r
        → list_any (λ q. q == r) (renumbered first end count total back) ≡ has_name (slice_get ((b ++ w) ++ t) r)
    any_back r from low high to =
        let ordered : first ≤ count = omega (arith, cut.at_end, cut.at_count) in
        let end_in : end ≤ count = omega (arith, cut.at_count) in
        let own = high_to from low in
        any_moved (stays first end) (moved first end count total) (λ r. (count ≤ r) × (r < total)) r from
        (λ z z_in z_stays e. let z_low : count ≤ z = z_in.0 in
        let goes_z = high_to z z_low in omega (arith, e, to, own, goes_z, ordered, low, z_low))
        (stays_high from (omega (arith, low, end_in))) to back in_back
        ∙ y.listed from
        ∙ ap₂ (λ c d. c && d) (within count (length ((b ++ (m ++ t)) ++ w)) from low (omega (arith, high, all_long)))
        (ap has_name (sym (carried_high from low high) ∙ ap (slice_get ((b ++ w) ++ t)) to))

    none_back : (r : ℕ) → ((z : ℕ) → count ≤ z → z < total → z - (count - first) ≡ r → ⊥)
        → list_any (λ q. q == r) (renumbered first end count total back) ≡ false
    none_back r never =
        any_unmoved (stays first end) (moved first end count total) (λ r. (count ≤ r) × (r < total)) r
        (λ z z_in z_stays e. never z z_in.0 z_in.1 (sym (high_to z z_in.0) ∙ e)) back in_back

    pub listed : Listed ((b ++ w) ++ t) 0 (length ((b ++ w) ++ t))
        (renumbered first end count total front ++ renumbered first end count total back)
    listed r =
        list_any-append (λ q. q == r) (renumbered first end count total front) (renumbered first end count total back)
        ∙ by (cases_lt r first) (cases_lt r (first + length w)) (cases_lt r (first + length w + length t))
      where
        has : Bool
        has = has_name (slice_get ((b ++ w) ++ t) r)

        ordered : first ≤ end
        ordered = omega (arith, cut.at_end)

        end_in : end ≤ count
        end_in = omega (arith, cut.at_count)

        inside : r < first + length w + length t
            → (is_between 0 (length ((b ++ w) ++ t)) r && has_name (slice_get ((b ++ w) ++ t) r))
            ≡ has_name (slice_get ((b ++ w) ++ t) r)
        inside lt =
            ap (λ c. c && has_name (slice_get ((b ++ w) ++ t) r))
            (within 0 (length ((b ++ w) ++ t)) r (omega arith) (omega (arith, lt, new_long)))

        by : ((r < first) ⊎ (first ≤ r)) → ((r < first + length w) ⊎ (first + length w ≤ r))
            → ((r < first + length w + length t) ⊎ (first + length w + length t ≤ r))
            → (list_any (λ q. q == r) (renumbered first end count total front)
            || list_any (λ q. q == r) (renumbered first end count total back))
            ≡ (is_between 0 (length ((b ++ w) ++ t)) r && has_name (slice_get ((b ++ w) ++ t) r))
        by (inl l) h k =
            ap₂ (λ c d. c || d) (any_front r r (omega (arith, l, ordered, end_in)) (stays_low r l) (low_to r l))
            (none_back r (λ z z_low z_high e. absurd (omega (arith, l, z_low, e, ordered, end_in))))
            ∙ or-false (has_name (slice_get ((b ++ w) ++ t) r)) ∙ sym (inside (omega (arith, l)))
        by (inr l) (inl h) k =
            let from : ℕ = r + (count - first) in
            let from_low : count ≤ from = omega (arith, l, ordered, end_in) in
            let from_high : from < total = omega (arith, h, l, ordered, end_in, cut.at_total) in
            let to = high_to from from_low in
            ap₂ (λ c d. c || d) (none_front r (λ z z' z_in g e. off_front z z' z_in g e l h))
            (any_back r from from_low from_high (omega (arith, to, ordered, end_in)))
            ∙ sym (inside (omega (arith, h)))
          where
            off_front : (z z' : ℕ)
                → z < count → Goes first end count total z z' → z' ≡ r → first ≤ r → r < first + length w → ⊥
            off_front z z' z_in (put a g) e l h = absurd (omega (arith, a, g, e, l))
            off_front z z' z_in (shifted a g) e l h = absurd (omega (arith, a, g, e, h, ordered, cut.at_total))
        by (inr l) (inr h) (inl k) =
            let from : ℕ = r - length w + (end - first) in
            let from_low : end ≤ from = omega (arith, h, ordered) in
            let from_high : from < count = omega (arith, k, h, ordered, cut.at_count) in
            let to = mid_to from from_low from_high in
            ap₂ (λ c d. c || d)
            (any_front r from from_high (stays_high from from_low) (omega (arith, to, h, ordered, cut.at_total)))
            (none_back r (λ z z_low z_high e.
            absurd (omega (arith, h, z_low, z_high, e, ordered, end_in, cut.at_total))))
            ∙ or-false (has_name (slice_get ((b ++ w) ++ t) r)) ∙ sym (inside k)
        by (inr l) (inr h) (inr k) =
            ap₂ (λ c d. c || d) (none_front r (λ z z' z_in g e. off_front z z' z_in g e))
            (none_back r (λ z z_low z_high e.
            absurd (omega (arith, h, z_low, z_high, e, ordered, end_in, cut.at_total))))
            ∙ sym (ap (λ c. c && has_name (slice_get ((b ++ w) ++ t) r))
            (too_high 0 (length ((b ++ w) ++ t)) r (omega (arith, k, new_long))))
          where
            off_front : (z z' : ℕ) → z < count → Goes first end count total z z' → z' ≡ r → ⊥
            off_front z z' z_in (put a g) e = absurd (omega (arith, a, g, e, l))
            off_front z z' z_in (shifted a g) e =
                absurd (omega (arith, a, g, e, k, z_in, ordered, cut.at_total, cut.at_count))

-- ---- where nothing is dropped

pub all_stay : (first end : ℕ) → end ≤ first → (ranks : List ℕ) → filter (stays first end) ranks ≡ ranks
all_stay first end le [] = refl
all_stay first end le (r ∷ ranks) =
    ap (λ b. cond b (r ∷ filter (stays first end) ranks) (filter (stays first end) ranks)) (by (nat_lt r first) refl)
    ∙ ap (λ rs. r ∷ rs) (all_stay first end le ranks)
  where
    by : (b : Bool) → nat_lt r first ≡ b → (b || not (nat_lt r end)) ≡ true
    by true is = refl
    by false is = let high = ltb-false r first is in ap not (le-ltb r end (omega (arith, high)))
