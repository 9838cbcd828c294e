-- Sizes of the rows above an edited place.
use Rattle.std.proofs.Common.{◌≡◌, ℕ, zero, suc, ◌+◌, ◌-◌, ◌<◌, ◌≤◌, Bool, true, false, nat_lt, List, [], ◌∷◌, ◌++◌}
use Rattle.std.proofs.Common.{append_assoc, length, take, drop, Some, slice_get, slice_index_or, slice_set, refl, subst}
use Rattle.std.proofs.Common.{sym, ap, ap₂, ◌∙◌, arith, if◌then◌else◌, length-append, length-drop, le-ltb, lt-ltb}
use Rattle.std.specs.List.{All}
use Rattle.std.proofs.Math.Seq.{set-append_seam}
use Rattle.std.proofs.lemmas.Bool.Decides.{Decides-ltb}
use Rattle.std.proofs.lemmas.List.{length-take, length-take-le, take-append-drop}
use Rattle.std.proofs.lemmas.Option.{get_or_from_slice_get, slice_get-get_or}
use Rattle.std.proofs.lemmas.List.Elements.{All-append, All-cons, All-drop, All-head, All-nil, All-tail}
use Rattle.std.proofs.lemmas.List.Elements.{All-take, All-weaker}
use Rattle.aas_rows.specs.Rows.{count_deeper, sizes}
use Rattle.aas_sheet_index.specs.Measuring.{Begins, IsAbove, StandFor}
use Rattle.aas_sheet_index.specs.Sides.{levels, measured, AreMeasured, HaveLevels}
use Rattle.aas_sheet_index.specs.declared.side.Side.{Side}
use Rattle.aas_sheet_index.proofs.Measures.{count_most, drop_measured, drop_more, have_measured, measured_back}
use Rattle.aas_sheet_index.proofs.Measures.{measured_known, measured_levels, measured_long, sized_measured}
use Rattle.aas_sheet_index.proofs.Spliced.{drop_seam, take_seam}

abbrev pub AreFrom : ℕ → List Side → Type 0
AreFrom k ss = All (λ s. k ≤ s.level) ss

abbrev AreBelow : ℕ → List Side → Type 0
AreBelow k ss = All (λ s. k < s.level) ss

-- ---- counts

-- rows that stand deeper all count
count_over : (k : ℕ) (a p : List Side)
    → AreBelow k a → count_deeper k (levels (a ++ p)) ≡ length a + count_deeper k (levels p)
count_over k [] p deep = sum (count_deeper k (levels p))
  where
    sum : (n : ℕ) → n ≡ 0 + n
    sum n = omega arith
count_over k (s ∷ a) p deep =
    let P : Side → Type 0 = λ s. k < s.level in
    let more = count_over k a p (All-tail P s a deep) in
    let own : count_deeper k (levels ((s ∷ a) ++ p)) ≡ 1 + count_deeper k (levels (a ++ p)) =
    ap (λ b. if b then 1 + count_deeper k (levels (a ++ p)) else 0) (lt-ltb k s.level (All-head P s a deep)) in
    omega (arith, more, own)

-- as many as count stand deeper
deep_front : (k : ℕ) (a p : List Side) → length a ≤ count_deeper k (levels (a ++ p)) → AreBelow k a
deep_front k [] p le = All-nil (λ (s : Side). k < s.level)
deep_front k (s ∷ a) p le = by (nat_lt k s.level) refl le (deep_front k a p)
  where
    by : (b : Bool) → nat_lt k s.level ≡ b → suc (length a) ≤ (if b then 1 + count_deeper k (levels (a ++ p)) else 0)
        → (length a ≤ count_deeper k (levels (a ++ p)) → AreBelow k a) → AreBelow k (s ∷ a)
    by true e le more =
        All-cons (λ (s : Side). k < s.level) s a ((Decides-ltb k s.level).0 e) (more (omega (arith, le)))
    by false e le more = absurd (omega (arith, le))

count_ended : (k l : ℕ) (p : List Side) → Begins k p → k ≤ l → count_deeper l (levels p) ≡ 0
count_ended k l [] begins le = refl
count_ended k l (s ∷ p) begins le =
    ap (λ b. if b then 1 + count_deeper l (levels p) else 0) (le-ltb l s.level (omega (arith, begins, le)))

-- what stands behind a row that is no deeper counts for nothing
count_stops : (k l : ℕ) (a p q : List Side) → Begins k p → Begins k q → k ≤ l
    → count_deeper l (levels (a ++ p)) ≡ count_deeper l (levels (a ++ q))
count_stops k l [] p q one two le = count_ended k l p one le ∙ sym (count_ended k l q two le)
count_stops k l (s ∷ a) p q one two le =
    ap (λ n. if nat_lt l s.level then 1 + n else 0) (count_stops k l a p q one two le)

-- sizes that were right with others behind them, where none of these counted
kept : (k : ℕ) (a p q : List Side)
    → AreFrom k a → Begins k p → Begins k q → AreMeasured (a ++ p) → measured (a ++ q) ≡ a ++ measured q
kept k [] p q from one two known = refl
kept k (s ∷ a) p q from one two known =
    let P : Side → Type 0 = λ s. k ≤ s.level in
    let own : s.size ≡ 1 + count_deeper s.level (levels (a ++ p)) = cc in
    let rest : AreMeasured (a ++ p) = cc in
    ap₂ (λ n xs. record s { size = n } ∷ xs)
    (ap (λ n. 1 + n) (sym (count_stops k s.level a p q one two (All-head P s a from))) ∙ sym own)
    (kept k a p q (All-tail P s a from) one two rest)

-- the size of a row below which some rows stand for others
pub exchanged : (s : Side) (a old more rest : List Side) (least : ℕ) → AreMeasured (s ∷ (a ++ (old ++ rest)))
    → 1 + length a + length old ≤ s.size → s.level < least → AreFrom least more
    → s.size - (1 + length a + length old) + (1 + length a + length more)
    ≡ 1 + count_deeper s.level (levels (a ++ (more ++ rest)))
exchanged s a old more rest least known counts high from =
    let k : ℕ = s.level in
    let own : s.size ≡ 1 + count_deeper k (levels (a ++ (old ++ rest))) = cc in
    let front : AreBelow k a = deep_front k a (old ++ rest) (omega (arith, own, counts)) in
    let was : count_deeper k (levels (a ++ (old ++ rest))) ≡ length a + count_deeper k (levels (old ++ rest)) =
    count_over k a (old ++ rest) front in
    let gone : AreBelow k old = deep_front k old rest (omega (arith, own, counts, was)) in
    let old_count : count_deeper k (levels (old ++ rest)) ≡ length old + count_deeper k (levels rest) =
    count_over k old rest gone in
    let deep : AreBelow k more =
    All-weaker (λ (x : Side). least ≤ x.level) (λ (x : Side). k < x.level)
    (λ x le. omega (arith, le, high)) more from in
    let is : count_deeper k (levels (a ++ (more ++ rest))) ≡ length a + count_deeper k (levels (more ++ rest)) =
    count_over k a (more ++ rest) front in
    let new_count : count_deeper k (levels (more ++ rest)) ≡ length more + count_deeper k (levels rest) =
    count_over k more rest deep in
    omega (arith, own, was, old_count, is, new_count, counts)

-- those at the front that the first counts stand no higher than it
pub below_first : (xs : List Side) (n : ℕ) (s : Side) (rest : List Side) → xs ≡ s ∷ rest → AreMeasured xs → n ≤ s.size
    → AreFrom s.level (take n xs)
below_first xs zero s rest is known le = All-nil (λ (x : Side). s.level ≤ x.level)
below_first xs (suc n) s rest is known le =
    let same : AreMeasured (s ∷ rest) = subst AreMeasured is known in
    let own : s.size ≡ 1 + count_deeper s.level (levels rest) = cc in
    let front : List Side = take n rest in
    let parts : count_deeper s.level (levels rest) ≡ count_deeper s.level (levels (front ++ drop n rest)) =
    ap (λ ss. count_deeper s.level (levels ss)) (sym (take-append-drop n rest)) in
    let most = length-take n rest in
    let deep : AreBelow s.level front = deep_front s.level front (drop n rest) (omega (arith, own, parts, most, le)) in
    let P : Side → Type 0 = λ x. s.level ≤ x.level in
    subst (λ ys. AreFrom s.level (take (suc n) ys)) (sym is)
    (All-cons P s front (omega arith)
    (All-weaker (λ (x : Side). s.level < x.level) P (λ x lt. omega (arith, lt)) front deep))

-- ---- sizes that are put right from a place back

-- the side of a rank with a size
abbrev with_size : List Side → ℕ → Side → ℕ → List Side
with_size ss rank d size = slice_set ss rank (record (slice_index_or ss rank d) { size = size })

-- The sizes from place on are right, and those before it are as they were. They were right where old stood in the place
-- of more, from first to known; what has the level k or stands deeper ends before the place, with either.
pub record Left (start ss : List Side) (first known end place k : ℕ) : Type 0 where
  pub front : List Side
  pub passed : List Side
  pub more : List Side
  pub old : List Side
  pub rest : List Side
  pub was : start ≡ front ++ (passed ++ (more ++ rest))
  pub is : ss ≡ front ++ measured (passed ++ (more ++ rest))
  pub sized : AreMeasured (front ++ (passed ++ (old ++ rest)))
  pub at : length front ≡ place
  pub goes_on : place + length passed ≡ first
  pub came : first + length more ≡ known
  pub went : first + length old ≡ end
  pub begins : Begins k (passed ++ (more ++ rest))
  pub began : Begins k (passed ++ (old ++ rest))
  pub new : more ≡ take (known - first) (drop first start)

pub begun : (start : List Side) (first known end k : ℕ)
    → first ≤ known → known ≤ length start → AreMeasured (drop first start)
    → StandFor start first known end k → Begins k (drop first start) → Left start start first known end first k
begun start first known end k ordered within sized o begins =
    let back : List Side = drop first start in
    let more : List Side = take (known - first) back in
    let rest : List Side = drop known start in
    let far : first + (known - first) ≡ known = omega (arith, ordered) in
    let behind : drop (known - first) back ≡ rest =
    drop_more (known - first) first start ∙ ap (λ n. drop n start) far in
    let parts : back ≡ more ++ rest = sym (take-append-drop (known - first) back) ∙ ap (λ xs. more ++ xs) behind in
    let back_long : length back ≡ length start - first = length-drop first start in
    let more_long : length more ≡ known - first =
    length-take-le (known - first) back (omega (arith, back_long, ordered, within)) in record {
      front = take first start;
      passed = [];
      more = more;
      old = o.old;
      rest = rest;
      was = sym (take-append-drop first start) ∙ ap (λ xs. take first start ++ xs) parts;
      is = sym (take-append-drop first start)
          ∙ ap (λ xs. take first start ++ xs) (sym (measured_known back sized) ∙ ap measured parts);
      sized = o.sized;
      at = length-take-le first start (omega (arith, ordered, within));
      goes_on = omega arith;
      came = omega (arith, more_long, far);
      went = o.went;
      begins = subst (Begins k) parts begins;
      began = o.begins;
      new = refl;
    }

read_seam : (b : List Side) (s d : Side) (c : List Side) → slice_index_or (b ++ s ∷ c) (length b) d ≡ s
read_seam [] s d c = refl
read_seam (x ∷ b) s d c = read_seam b s d c

-- a row that was read from the front parts it
parted : (xs ys : List Side) (n : ℕ) (s : Side)
    → n < length xs → slice_get (xs ++ ys) n ≡ Some s → xs ≡ take n xs ++ s ∷ drop (suc n) xs
parted [] ys n s lt is = absurd (omega arith)
parted (x ∷ xs) ys zero s lt is = let same : x ≡ s = cc in ap (λ x. x ∷ xs) same
parted (x ∷ xs) ys (suc n) s lt is = ap (λ xs. x ∷ xs) (parted xs ys n s (omega arith) is)

none : (xs : List Side) → length xs ≡ 0 → xs ≡ []
none [] e = refl
none (x ∷ xs) e = absurd (omega (arith, e))

module _ (start ss : List Side) (first known end place k : ℕ) (l : Left start ss first known end place k) where
  abbrev behind : List Side
  behind = l.passed ++ (l.more ++ l.rest)

  abbrev others : List Side
  others = l.passed ++ (l.old ++ l.rest)

  -- the front in two, at a row
  pub record Split (rank : ℕ) (s : Side) : Type 0 where
    pub one : List Side
    pub two : List Side
    pub is : l.front ≡ one ++ s ∷ two
    pub at : length one ≡ rank

  pub split : (rank : ℕ) (s : Side) → rank < place → slice_get ss rank ≡ Some s → Split rank s
  split rank s lt there =
      let at = l.at in record {
        one = take rank l.front;
        two = drop (suc rank) l.front;
        is =
            parted l.front (measured behind) rank s (omega (arith, at, lt))
            (ap (λ xs. slice_get xs rank) (sym l.is) ∙ there);
        at = length-take-le rank l.front (omega (arith, at, lt));
      }

  -- where the sizes were right, with the front in two
  was_sized : (rank : ℕ) (s : Side) (p : Split rank s) → AreMeasured (s ∷ (p.two ++ others))
  was_sized rank s p =
      measured_back p.one (s ∷ (p.two ++ others))
      (subst AreMeasured (append_assoc p.one (s ∷ p.two) others)
      (subst (λ xs. AreMeasured (xs ++ others)) p.is l.sized))

  -- the size of a row is put right, and those between it and the place were
  pub onward : (rank size : ℕ) (s d : Side) (p : Split rank s) → AreFrom k p.two
      → size ≡ 1 + count_deeper s.level (levels (p.two ++ behind))
      → Left start (with_size ss rank d size) first known end rank (slice_index_or ss rank d).level
  onward rank size s d p from is =
      let all : AreMeasured (s ∷ (p.two ++ others)) = was_sized rank s p in
      let rest_all : AreMeasured (p.two ++ others) = measured_back (s ∷ []) (p.two ++ others) all in
      let here : ss ≡ p.one ++ s ∷ (p.two ++ measured behind) =
      l.is ∙ ap (λ xs. xs ++ measured behind) p.is ∙ append_assoc p.one (s ∷ p.two) (measured behind) in
      let read : slice_index_or ss rank d ≡ s =
      ap₂ (λ xs n. slice_index_or xs n d) here (sym p.at) ∙ read_seam p.one s d (p.two ++ measured behind) in
      let x : Side = record (slice_index_or ss rank d) { size = size } in
      let moved : (xs : List Side) → (s ∷ p.two) ++ (l.passed ++ xs) ≡ (s ∷ (p.two ++ l.passed)) ++ xs =
      λ xs. sym (append_assoc (s ∷ p.two) l.passed xs) in
      let long = ap length p.is ∙ length-append p.one (s ∷ p.two) in
      let both = length-append (s ∷ p.two) l.passed in
      let one_at = p.at in
      let at = l.at in
      let goes_on = l.goes_on in
      let level : s.level ≡ (slice_index_or ss rank d).level = ap (λ (s : Side). s.level) (sym read) in record {
        front = p.one;
        passed = s ∷ (p.two ++ l.passed);
        more = l.more;
        old = l.old;
        rest = l.rest;
        was = l.was ∙ ap (λ xs. xs ++ behind) p.is ∙ append_assoc p.one (s ∷ p.two) behind
            ∙ ap (λ xs. p.one ++ xs) (moved (l.more ++ l.rest));
        is = ap₂ (λ xs n. slice_set xs n x) here (sym p.at) ∙ set-append_seam p.one s (p.two ++ measured behind) x
            ∙ ap (λ y. p.one ++ y ∷ (p.two ++ measured behind))
            (ap (λ (s : Side). record s { size = size }) read ∙ ap (λ n. record s { size = n }) is)
            ∙ ap (λ xs. p.one ++ (record s { size = 1 + count_deeper s.level (levels (p.two ++ behind)) }) ∷ xs)
            (sym (kept k p.two others behind from l.began l.begins rest_all))
            ∙ ap (λ xs. p.one ++ measured xs) (moved (l.more ++ l.rest));
        sized = subst AreMeasured (ap (λ xs. p.one ++ xs) (moved (l.old ++ l.rest)))
            (subst AreMeasured (append_assoc p.one (s ∷ p.two) others)
            (subst (λ xs. AreMeasured (xs ++ others)) p.is l.sized));
        at = p.at;
        goes_on = omega (arith, long, both, one_at, at, goes_on);
        came = l.came;
        went = l.went;
        begins = omega (arith, level);
        began = omega (arith, level);
        new = l.new;
      }

  -- where some row counts those up to end, the size that it has with more in the place of old
  module _ (rank least : ℕ) (d : Side) (i : IsAbove ss rank place k least end)
      (from : AreFrom least (take (known - first) (drop first start))) where
    abbrev own : Split rank i.side
    own = split rank i.side i.before i.there

    abbrev new_size : ℕ
    new_size = (slice_index_or ss rank d).size - (end - rank) + (known - rank)

    size_read : (slice_index_or ss rank d).size ≡ i.side.size
    size_read = ap (λ (s : Side). s.size) (get_or_from_slice_get ss rank i.side d i.there)

    pub counted : end - rank ≤ (slice_index_or ss rank d).size
    counted = let counts = i.counts in omega (arith, size_read, counts)

    -- how many rows stand between this one and the first
    between : rank + (1 + length (own.two ++ l.passed)) ≡ first
    between =
        let long = ap length own.is ∙ length-append own.one (i.side ∷ own.two) in
        let both = length-append own.two l.passed in
        let one_at = own.at in
        let at = l.at in
        let goes_on = l.goes_on in
        omega (arith, long, both, one_at, at, goes_on)

    new_size_is : new_size ≡ 1 + count_deeper i.side.level (levels (own.two ++ behind))
    new_size_is =
        let s : Side = i.side in
        let a : List Side = own.two ++ l.passed in
        let counts = i.counts in
        let came = l.came in
        let went = l.went in
        let gone : end - rank ≡ 1 + length a + length l.old = omega (arith, between, went) in
        let there : known - rank ≡ 1 + length a + length l.more = omega (arith, between, came) in
        let known_all : AreMeasured (s ∷ (a ++ (l.old ++ l.rest))) =
        subst (λ xs. AreMeasured (s ∷ xs))
        (sym (append_assoc own.two l.passed (l.old ++ l.rest))) (was_sized rank s own) in
        ap (λ n. n - (end - rank) + (known - rank)) size_read ∙ ap₂ (λ m n. s.size - m + n) gone there
        ∙ exchanged s a l.old l.more l.rest least known_all (omega (arith, gone, counts)) i.high
        (subst (AreFrom least) (sym l.new) from)
        ∙ ap (λ xs. 1 + count_deeper s.level (levels xs)) (append_assoc own.two l.passed (l.more ++ l.rest))

    pub new_size_fits : new_size ≤ length ss
    new_size_fits =
        let most = count_most i.side.level (own.two ++ behind) in
        let rest = length-append own.two behind in
        let long = ap length l.was ∙ length-append l.front behind in
        let front = ap length own.is ∙ length-append own.one (i.side ∷ own.two) in
        let all = ap length l.is ∙ length-append l.front (measured behind) in
        let same = measured_long behind in
        omega (arith, new_size_is, most, rest, front, all, same)

    pub above_done : Left start (with_size ss rank d new_size) first known end rank (slice_index_or ss rank d).level
    above_done =
        let s : Side = i.side in
        let all : AreMeasured (s ∷ (own.two ++ others)) = was_sized rank s own in
        let size : s.size ≡ 1 + count_deeper s.level (levels (own.two ++ others)) = cc in
        let counts = i.counts in
        let went = l.went in
        let both = length-append own.two l.passed in
        let deep : AreBelow s.level own.two =
        deep_front s.level own.two others (omega (arith, size, counts, went, both, between)) in
        let close = i.close in
        let near : AreFrom k own.two =
        All-weaker (λ (x : Side). s.level < x.level) (λ (x : Side). k ≤ x.level)
        (λ x lt. omega (arith, lt, close)) own.two deep in
        onward rank new_size s d own near new_size_is

  -- the row right before the place
  row_at : (rank size : ℕ) (s d : Side)
      → Split rank s → place ≡ suc rank → slice_get (sizes (levels ss)) rank ≡ Some size
      → Left start (with_size ss rank d size) first known end rank (slice_index_or ss rank d).level
  row_at rank size s d p next is =
      let at = l.at in
      let one_at = p.at in
      let front = ap length p.is ∙ length-append p.one (s ∷ p.two) in
      let alone : p.two ≡ [] = none p.two (omega (arith, front, at, one_at, next)) in
      let here : ss ≡ p.one ++ s ∷ measured behind =
      l.is ∙ ap (λ xs. xs ++ measured behind) (p.is ∙ ap (λ xs. p.one ++ s ∷ xs) alone)
      ∙ append_assoc p.one (s ∷ []) (measured behind) in
      let same : Some size ≡ Some (1 + count_deeper s.level (levels (measured behind))) =
      sym is ∙ ap₂ (λ xs n. slice_get (sizes (levels xs)) n) here (sym p.at) ∙ size_seam p.one s (measured behind) in
      let size_is : size ≡ 1 + count_deeper s.level (levels (measured behind)) = cc in
      onward rank size s d p (subst (AreFrom k) (sym alone) (All-nil (λ (x : Side). k ≤ x.level)))
      (size_is ∙ ap (λ ls. 1 + count_deeper s.level ls) (measured_levels behind)
      ∙ ap (λ xs. 1 + count_deeper s.level (levels (xs ++ behind))) (sym alone))
    where
      size_seam : (b : List Side) (s : Side) (c : List Side)
          → slice_get (sizes (levels (b ++ s ∷ c))) (length b) ≡ Some (1 + count_deeper s.level (levels c))
      size_seam [] s c = refl
      size_seam (x ∷ b) s c = size_seam b s c

  pub row_done : (rank size : ℕ) (d : Side) → place ≡ suc rank → slice_get (sizes (levels ss)) rank ≡ Some size
      → Left start (with_size ss rank d size) first known end rank (slice_index_or ss rank d).level
  row_done rank size d next is =
      let all = ap length l.is ∙ length-append l.front (measured behind) in
      let at = l.at in
      let there = slice_get-get_or ss rank d (omega (arith, all, at, next)) in
      row_at rank size (slice_index_or ss rank d) d
      (split rank (slice_index_or ss rank d) (omega (arith, next)) there) next is

  pub behind_sized : AreMeasured (drop place ss)
  behind_sized =
      subst AreMeasured (sym (drop_seam ss l.front (measured behind) place l.is l.at)) (sized_measured behind)

  -- all sizes are right where each row left ends before the place
  pub front_done : HaveLevels start → k ≤ 1 → ss ≡ measured start
  front_done deep high =
      let P : Side → Type 0 = λ s. 0 < s.level in
      let front : HaveLevels l.front =
      subst HaveLevels (take_seam start l.front behind place l.was l.at) (All-take P place start deep) in
      let low : AreFrom k l.front =
      All-weaker P (λ (s : Side). k ≤ s.level) (λ s lt. omega (arith, lt, high)) l.front front in
      l.is ∙ sym (kept k l.front others behind low l.began l.begins l.sized) ∙ ap measured (sym l.was)

-- ---- rows that came have their sizes

module _ (ss new : List Side) (first known : ℕ) (ordered : first ≤ known) (within : known ≤ length ss)
    (is : new ≡ take first ss ++ measured (drop first ss)) where
  front_long : length (take first ss) ≡ first
  front_long = length-take-le first ss (omega (arith, ordered, within))

  new_back : drop first new ≡ measured (drop first ss)
  new_back = drop_seam new (take first ss) (measured (drop first ss)) first is front_long

  pub new_levels : HaveLevels ss → HaveLevels new
  new_levels deep =
      let P : Side → Type 0 = λ s. 0 < s.level in
      subst HaveLevels (sym is) (All-append P (take first ss) (measured (drop first ss)) (All-take P first ss deep)
      (have_measured (drop first ss) (All-drop P first ss deep)))

  pub new_sized : AreMeasured (drop first new)
  new_sized = subst AreMeasured (sym new_back) (sized_measured (drop first ss))

  pub new_others : (end k l : ℕ)
      → k ≤ l → AreMeasured (drop known ss) → StandFor ss first known end k → StandFor new first known end l
  new_others end k l le back o =
      let far : first + (known - first) ≡ known = omega (arith, ordered) in
      let step : (xs : List Side) → drop known xs ≡ drop (known - first) (drop first xs) =
      λ xs. sym (drop_more (known - first) first xs ∙ ap (λ n. drop n xs) far) in
      let front : take first ss ≡ take first new =
      sym (take_seam new (take first ss) (measured (drop first ss)) first is front_long) in
      let rest : drop known ss ≡ drop known new =
      sym (measured_known (drop known ss) back) ∙ ap measured (step ss)
      ∙ sym (drop_measured (known - first) (drop first ss))
      ∙ ap (drop (known - first)) (sym new_back) ∙ sym (step new) in record {
        old = o.old;
        went = o.went;
        sized = subst AreMeasured (ap₂ (λ xs ys. xs ++ (o.old ++ ys)) front rest) o.sized;
        begins = subst (λ ys. Begins l (o.old ++ ys)) rest (weaker (o.old ++ drop known ss) o.begins);
      }
    where
      weaker : (xs : List Side) → Begins k xs → Begins l xs
      weaker [] h = tt
      weaker (x ∷ xs) h = omega (arith, h, le)

  pub new_measured : measured new ≡ measured ss
  new_measured = ap measured is ∙ again (take first ss) (drop first ss) ∙ ap measured (take-append-drop first ss)
    where
      same_levels : (a b : List Side) → levels (a ++ measured b) ≡ levels (a ++ b)
      same_levels [] b = measured_levels b
      same_levels (x ∷ a) b = ap (λ ls. x.level ∷ ls) (same_levels a b)

      again : (a b : List Side) → measured (a ++ measured b) ≡ measured (a ++ b)
      again [] b = measured_known (measured b) (sized_measured b)
      again (x ∷ a) b =
          ap₂ (λ ls xs. record x { size = 1 + count_deeper x.level ls } ∷ xs) (same_levels a b) (again a b)
