-- A step leads to the row of the child to which it leads.
use Rattle.std.proofs.Common.{◌≡◌, ℕ, zero, suc, ◌+◌, ◌<◌, ◌≤◌, Bool, true, false, ◌==◌, ◌&&◌, cond, not, nat_lt, List, [], ◌∷◌, ◌++◌, length, take, Option, Some, None, option_and_then, option_map, slice_get, refl, sym, ap, ◌∙◌, append_assoc, arith, length-append, if◌then◌else◌, le-ltb, lt-ltb}
use Rattle.std.specs.List.{position, position_or_len}
use Rattle.std.proofs.lemmas.Bool.Decides.{Decides-eqb, Decides-ltb}
use Rattle.std.proofs.lemmas.Bool.{ltb-false}
use Rattle.std.proofs.lemmas.Option.{slice_get-get_or}
use Rattle.aas_model.specs.declared.element.Element.{Element}
use Rattle.aas_model.specs.declared.path.PathStep.TheVariants.{Name, Place}
use Rattle.aas_path_trees.specs.Children.{kids_of, id_short_of}
use Rattle.aas_path_trees.specs.ElementAt.{is_text, place_within, place_of, child_by}
use Rattle.aas_path_trees.specs.Patched.{kinds, kinds_of_all}
use Rattle.aas_path_trees.proofs.Patches.{kinds_out}
use Rattle.aas_rows.specs.Children.{nth_where, is_at, is_named, ChildRows}
use Rattle.aas_rows.specs.Edits.{count}
use Rattle.aas_rows.specs.Rows.{Line, line_at, rows, rows_of_all}
use Rattle.aas_rows.proofs.Trees.{rows_out, Every, by_kids, every}
use Rattle.aas_rows.proofs.Edited.{count_at}

-- the place of the first that passes, step by step
abbrev pub first_where : {X : Type 0} → (X → Bool) → List X → Option ℕ
first_where p [] = None
first_where p (x ∷ xs) = if p x then Some 0 else option_map (λ i. i + 1) (first_where p xs)

-- ---- options of places

pub map_twice : {X Y Z : Type 0} (f : Y → Z) (g : X → Y) (o : Option X) → option_map f (option_map g o) ≡ option_map (λ x. f (g x)) o
map_twice f g None = refl
map_twice f g (Some x) = refl

pub map_same : {X Y : Type 0} (f g : X → Y) (o : Option X) → ((x : X) → f x ≡ g x) → option_map f o ≡ option_map g o
map_same f g None h = refl
map_same f g (Some x) h = ap (λ y. Some y) (h x)

map_none : (o : Option ℕ) → o ≡ option_map (λ i. 0 + i) o
map_none None = refl
map_none (Some i) = ap (λ n. Some n) (omega arith)

-- ---- rows that stand deeper are passed over

-- a test that only rows of the level k pass
abbrev pub OnlyAt : ℕ → (Line → Bool) → Type 0
OnlyAt k p = (r : Line) → ¬ (r.level ≡ k) → p r ≡ false

pub Passed : Element → Type 0
Passed e = (k j : ℕ) (p : Line → Bool) (rest : List Line) → k < j → OnlyAt k p → (first_where p (rows e j ++ rest) ≡ option_map (λ i. length (rows e j) + i) (first_where p rest))
    × ((n : ℕ) → nth_where p n (rows e j ++ rest) ≡ option_map (λ i. length (rows e j) + i) (nth_where p n rest))

skip_first : (p : Line → Bool) (r : Line) (rs : List Line) → p r ≡ false → first_where p (r ∷ rs) ≡ option_map (λ i. i + 1) (first_where p rs)
skip_first p r rs e = ap (λ b. if b then Some 0 else option_map (λ i. i + 1) (first_where p rs)) e

skip_nth : (p : Line → Bool) (n : ℕ) (r : Line) (rs : List Line) → p r ≡ false → nth_where p n (r ∷ rs) ≡ option_map (λ i. i + 1) (nth_where p n rs)
skip_nth p zero r rs e = ap (λ b. if b then Some 0 else option_map (λ i. i + 1) (nth_where p zero rs)) e
skip_nth p (suc n) r rs e = ap (λ b. option_map (λ i. i + 1) (if b then nth_where p n rs else nth_where p (suc n) rs)) e

on_from : (m n : ℕ) (o : Option ℕ) → option_map (λ i. m + i) (option_map (λ i. n + i) o) ≡ option_map (λ i. m + n + i) o
on_from m n None = refl
on_from m n (Some i) = ap (λ n. Some n) (omega arith)

one_on : (n : ℕ) (o : Option ℕ) → option_map (λ i. i + 1) (option_map (λ i. n + i) o) ≡ option_map (λ i. suc n + i) o
one_on n None = refl
one_on n (Some i) = ap (λ n. Some n) (omega arith)

passed_all : (es : List Element) → Every Passed es → (k j : ℕ) (p : Line → Bool) (rest : List Line) → k < j → OnlyAt k p
    → (first_where p (rows_of_all es j ++ rest) ≡ option_map (λ i. length (rows_of_all es j) + i) (first_where p rest))
    × ((n : ℕ) → nth_where p n (rows_of_all es j ++ rest) ≡ option_map (λ i. length (rows_of_all es j) + i) (nth_where p n rest))
unfolding Passed
passed_all [] h k j p rest lt only = (map_none (first_where p rest), λ n. map_none (nth_where p n rest))
passed_all (e ∷ es) h k j p rest lt only =
    let here = h.0 k j p (rows_of_all es j ++ rest) lt only in
    let more = passed_all es h.1 k j p rest lt only in
    let apart : (rows e j ++ rows_of_all es j) ++ rest ≡ rows e j ++ (rows_of_all es j ++ rest) = append_assoc (rows e j) (rows_of_all es j) rest in
    let long : length (rows e j) + length (rows_of_all es j) ≡ length (rows e j ++ rows_of_all es j) = sym (length-append (rows e j) (rows_of_all es j)) in (
      ap (first_where p) apart ∙ here.0 ∙ ap (option_map (λ i. length (rows e j) + i)) more.0 ∙ on_from (length (rows e j)) (length (rows_of_all es j)) (first_where p rest)
          ∙ ap (λ m. option_map (λ i. m + i) (first_where p rest)) long,
      λ n. ap (nth_where p n) apart ∙ here.1 n ∙ ap (option_map (λ i. length (rows e j) + i)) (more.1 n) ∙ on_from (length (rows e j)) (length (rows_of_all es j)) (nth_where p n rest)
          ∙ ap (λ m. option_map (λ i. m + i) (nth_where p n rest)) long,
    )

passed : (e : Element) → Every Passed (kids_of e) → Passed e
unfolding Passed
passed e h k j p rest lt only =
    let below = passed_all (kids_of e) h k (j + 1) p rest (omega arith) only in
    let fails : p (line_at j e) ≡ false = only (line_at j e) (λ e. absurd (omega arith)) in
    let kid_rows : List Line = rows_of_all (kids_of e) (j + 1) in
    let long : suc (length kid_rows) ≡ length (rows e j) = ap length (sym (rows_out e j)) in (
      ap (λ rs. first_where p (rs ++ rest)) (rows_out e j) ∙ skip_first p (line_at j e) (kid_rows ++ rest) fails ∙ ap (option_map (λ i. i + 1)) below.0 ∙ one_on (length kid_rows) (first_where p rest)
          ∙ ap (λ m. option_map (λ i. m + i) (first_where p rest)) long,
      λ n. ap (λ rs. nth_where p n (rs ++ rest)) (rows_out e j) ∙ skip_nth p n (line_at j e) (kid_rows ++ rest) fails ∙ ap (option_map (λ i. i + 1)) (below.1 n) ∙ one_on (length kid_rows) (nth_where p n rest)
          ∙ ap (λ m. option_map (λ i. m + i) (nth_where p n rest)) long,
    )

pub pass_all : (es : List Element) (k j : ℕ) (p : Line → Bool) (rest : List Line) → k < j → OnlyAt k p
    → (first_where p (rows_of_all es j ++ rest) ≡ option_map (λ i. length (rows_of_all es j) + i) (first_where p rest))
    × ((n : ℕ) → nth_where p n (rows_of_all es j ++ rest) ≡ option_map (λ i. length (rows_of_all es j) + i) (nth_where p n rest))
pass_all es k j p rest lt only = passed_all es (every Passed (by_kids Passed passed) es) k j p rest lt only

-- ---- children

not_at : (k : ℕ) (r : Line) → ¬ (r.level ≡ k) → is_at k r ≡ false
not_at k r other = by (r.level == k) refl
  where
    by : (b : Bool) → (r.level == k) ≡ b → (r.level == k) ≡ false
    by true e = absurd (other ((Decides-eqb r.level k).0 e))
    by false e = e

pub named_only : (k : ℕ) (n : List ℕ) → OnlyAt k (is_named k n)
named_only k n r other = ap (λ b. b && is_text n r.common.id_short) (not_at k r other)

pub at_only : (k : ℕ) → OnlyAt k (is_at k)
at_only k r other = not_at k r other

pub at_level : (k : ℕ) (e : Element) → is_at k (line_at k e) ≡ true
at_level k e = (Decides-eqb k k).1 refl

-- one child more: its own row, the rows below it, and the rest
child_more : (e : Element) (ks : List Element) (k : ℕ) (o : Option ℕ)
    → option_map (λ i. i + 1) (option_map (λ i. length (rows_of_all (kids_of e) (k + 1)) + i) (option_map (λ i. count (take i ks)) o)) ≡ option_map (λ i. count (take i (e ∷ ks))) (option_map (λ i. i + 1) o)
child_more e ks k None = refl
child_more e ks k (Some i) =
    let own : length (kinds e) ≡ suc (length (rows_of_all (kids_of e) (k + 1))) = ap length (kinds_out e) ∙ ap suc (sym (count_at (kids_of e) (k + 1))) in
    let next : i + 1 ≡ suc i = omega arith in
    let whole : count (take (i + 1) (e ∷ ks)) ≡ length (kinds e) + count (take i ks) = ap (λ m. count (take m (e ∷ ks))) next ∙ length-append (kinds e) (kinds_of_all (take i ks)) in
    ap (λ n. Some n) (omega arith)

named_by : (e : Element) (ks : List Element) (k : ℕ) (n : List ℕ) (b : Bool) → is_text n (id_short_of e) ≡ b → first_where (is_named k n) (rows_of_all ks k) ≡ option_map (λ i. count (take i ks)) (first_where (λ e. is_text n (id_short_of e)) ks)
    → (if b then Some 0 else option_map (λ i. i + 1) (first_where (is_named k n) (rows_of_all (kids_of e) (k + 1) ++ rows_of_all ks k)))
    ≡ option_map (λ i. count (take i (e ∷ ks))) (if b then Some 0 else option_map (λ i. i + 1) (first_where (λ e. is_text n (id_short_of e)) ks))
named_by e ks k n true is ih = refl
named_by e ks k n false is ih =
    ap (option_map (λ i. i + 1)) ((pass_all (kids_of e) k (k + 1) (is_named k n) (rows_of_all ks k) (omega arith) (named_only k n)).0 ∙ ap (option_map (λ i. length (rows_of_all (kids_of e) (k + 1)) + i)) ih)
    ∙ child_more e ks k (first_where (λ e. is_text n (id_short_of e)) ks)

named : (ks : List Element) (k : ℕ) (n : List ℕ) → first_where (is_named k n) (rows_of_all ks k) ≡ option_map (λ i. count (take i ks)) (first_where (λ e. is_text n (id_short_of e)) ks)
named [] k n = refl
named (e ∷ ks) k n =
    let rest : List Line = rows_of_all (kids_of e) (k + 1) ++ rows_of_all ks k in
    ap (λ rs. first_where (is_named k n) (rs ++ rows_of_all ks k)) (rows_out e k)
    ∙ ap (λ b. if b && is_text n (id_short_of e) then Some 0 else option_map (λ i. i + 1) (first_where (is_named k n) rest)) (at_level k e)
    ∙ named_by e ks k n (is_text n (id_short_of e)) refl (named ks k n)

abbrev within : ℕ → List Element → Option ℕ
within n [] = None
within zero (k ∷ ks) = Some 0
within (suc n) (k ∷ ks) = option_map (λ i. i + 1) (within n ks)

placed : (ks : List Element) (k n : ℕ) → nth_where (is_at k) n (rows_of_all ks k) ≡ option_map (λ i. count (take i ks)) (within n ks)
placed [] k n = refl
placed (e ∷ ks) k zero =
    ap (λ rs. nth_where (is_at k) zero (rs ++ rows_of_all ks k)) (rows_out e k)
    ∙ ap (λ b. if b then Some 0 else option_map (λ i. i + 1) (nth_where (is_at k) zero (rows_of_all (kids_of e) (k + 1) ++ rows_of_all ks k))) (at_level k e)
placed (e ∷ ks) k (suc n) =
    let rest : List Line = rows_of_all (kids_of e) (k + 1) ++ rows_of_all ks k in
    ap (λ rs. nth_where (is_at k) (suc n) (rs ++ rows_of_all ks k)) (rows_out e k)
    ∙ ap (λ b. option_map (λ i. i + 1) (if b then nth_where (is_at k) n rest else nth_where (is_at k) (suc n) rest)) (at_level k e)
    ∙ ap (option_map (λ i. i + 1)) ((pass_all (kids_of e) k (k + 1) (is_at k) (rows_of_all ks k) (omega arith) (at_only k)).1 n ∙ ap (option_map (λ i. length (rows_of_all (kids_of e) (k + 1)) + i)) (placed ks k n))
    ∙ child_more e ks k (within n ks)

-- ---- the words of paths

lt_suc : (m n : ℕ) → nat_lt (suc m) (suc n) ≡ nat_lt m n
lt_suc m n = by (nat_lt m n) refl
  where
    by : (b : Bool) → nat_lt m n ≡ b → nat_lt (suc m) (suc n) ≡ nat_lt m n
    by true e = let lt : m < n = (Decides-ltb m n).0 e in lt-ltb (suc m) (suc n) (omega arith) ∙ sym e
    by false e = let le : n ≤ m = ltb-false m n e in le-ltb (suc m) (suc n) (omega arith) ∙ sym e

one_up : (m n : ℕ) (b : Bool) → option_map (λ i. i + 1) (if b then Some m else None) ≡ (if b then Some (suc m) else None)
one_up m n true = ap (λ n. Some n) (omega arith)
one_up m n false = refl

within_place : (n : ℕ) (ks : List Element) → within n ks ≡ place_within n ks
within_place n [] = sym (ap (λ b. if b then Some n else None) (le-ltb n 0 (omega arith)))
within_place zero (k ∷ ks) = sym (ap (λ b. if b then Some 0 else None) (lt-ltb 0 (suc (length ks)) (omega arith)))
within_place (suc n) (k ∷ ks) =
    ap (option_map (λ i. i + 1)) (within_place n ks) ∙ one_up n (length ks) (nat_lt n (length ks)) ∙ ap (λ b. if b then Some (suc n) else None) (sym (lt_suc n (length ks)))

abbrev at_end : ℕ → ℕ → Option ℕ
at_end m n = cond (nat_lt m n) (Some m) None

position_by : {X : Type 0} (p : X → Bool) (x : X) (xs : List X) (b : Bool) → first_where p xs ≡ position p xs
    → (if b then Some 0 else option_map (λ i. i + 1) (first_where p xs)) ≡ at_end (cond (not b) (1 + position_or_len p xs) 0) (suc (length xs))
position_by p x xs true ih = sym (ap (λ b. cond b (Some 0) None) (lt-ltb 0 (suc (length xs)) (omega arith)))
position_by p x xs false ih =
    let next : suc (position_or_len p xs) ≡ 1 + position_or_len p xs = omega arith in
    ap (option_map (λ i. i + 1)) ih ∙ one_up (position_or_len p xs) (length xs) (nat_lt (position_or_len p xs) (length xs))
    ∙ ap (λ b. cond b (Some (suc (position_or_len p xs))) None) (sym (lt_suc (position_or_len p xs) (length xs))) ∙ ap (λ m. at_end m (suc (length xs))) next

pub position_first : {X : Type 0} (p : X → Bool) (xs : List X) → first_where p xs ≡ position p xs
position_first p [] = refl
position_first p (x ∷ xs) = position_by p x xs (p x) (position_first p xs)

pub first_inside : {X : Type 0} (p : X → Bool) (xs : List X) (i : ℕ) → first_where p xs ≡ Some i → i < length xs
first_inside p [] i e = absurd (cc)
first_inside p (x ∷ xs) i e = by (p x) (λ j h. first_inside p xs j h) e
  where
    more : (o : Option ℕ) → ((j : ℕ) → o ≡ Some j → j < length xs) → option_map (λ i. i + 1) o ≡ Some i → i < suc (length xs)
    more None h e = absurd (cc)
    more (Some j) h e = let same : j + 1 ≡ i = cc in let lt = h j refl in omega (arith, lt)

    by : (b : Bool) → ((j : ℕ) → first_where p xs ≡ Some j → j < length xs) → (if b then Some 0 else option_map (λ i. i + 1) (first_where p xs)) ≡ Some i → i < suc (length xs)
    by true h e = let same : 0 ≡ i = cc in omega arith
    by false h e = more (first_where p xs) h e

pub position_inside : {X : Type 0} (p : X → Bool) (xs : List X) (i : ℕ) → position p xs ≡ Some i → i < length xs
position_inside p xs i e = first_inside p xs i (position_first p xs ∙ e)

within_inside : (n : ℕ) (ks : List Element) (i : ℕ) → within n ks ≡ Some i → i < length ks
within_inside n [] i e = absurd (cc)
within_inside zero (k ∷ ks) i e = let same : 0 ≡ i = cc in omega arith
within_inside (suc n) (k ∷ ks) i e = more (within n ks) (λ j h. within_inside n ks j h) e
  where
    more : (o : Option ℕ) → ((j : ℕ) → o ≡ Some j → j < length ks) → option_map (λ i. i + 1) o ≡ Some i → i < suc (length ks)
    more None h e = absurd (cc)
    more (Some j) h e = let same : j + 1 ≡ i = cc in let lt = h j refl in omega (arith, lt)

with_child : (ks : List Element) (o : Option ℕ) → ((i : ℕ) → o ≡ Some i → i < length ks)
    → option_map (λ i. count (take i ks)) o ≡ option_map (λ (c : ℕ × Element). count (take c.0 ks)) (option_and_then (λ i. option_map (λ k. (i, k)) (slice_get ks i)) o)
with_child ks None h = refl
with_child [] (Some i) h = absurd (let lt = h i refl in omega (arith, lt))
with_child (k ∷ ks) (Some i) h =
    sym (ap (λ v. option_map (λ (c : ℕ × Element). count (take c.0 (k ∷ ks))) (option_map (λ k. (i, k)) v)) (slice_get-get_or (k ∷ ks) i k (h i refl)))

pub have_child_rows : ChildRows
unfolding child_by place_of
have_child_rows true (Name n) ks k = refl
have_child_rows false (Name n) ks k =
    sym (position_first (is_named k n) (rows_of_all ks k)) ∙ named ks k n ∙ with_child ks (first_where (λ e. is_text n (id_short_of e)) ks) (λ i h. first_inside (λ e. is_text n (id_short_of e)) ks i h)
    ∙ ap (λ o. option_map (λ (c : ℕ × Element). count (take c.0 ks)) (option_and_then (λ i. option_map (λ k. (i, k)) (slice_get ks i)) o)) (position_first (λ e. is_text n (id_short_of e)) ks)
have_child_rows true (Place i) ks k =
    placed ks k i ∙ with_child ks (within i ks) (λ j h. within_inside i ks j h)
    ∙ ap (λ o. option_map (λ (c : ℕ × Element). count (take c.0 ks)) (option_and_then (λ i. option_map (λ k. (i, k)) (slice_get ks i)) o)) (within_place i ks)
have_child_rows false (Place i) ks k = refl

pub nth_inside : {X : Type 0} (p : X → Bool) (n : ℕ) (xs : List X) (i : ℕ) → nth_where p n xs ≡ Some i → i < length xs
nth_inside p n [] i e = absurd (cc)
nth_inside p zero (x ∷ xs) i e = by (p x) (λ j h. nth_inside p zero xs j h) e
  where
    more : (o : Option ℕ) → ((j : ℕ) → o ≡ Some j → j < length xs) → option_map (λ i. i + 1) o ≡ Some i → i < suc (length xs)
    more None h e = absurd (cc)
    more (Some j) h e = let same : j + 1 ≡ i = cc in let lt = h j refl in omega (arith, lt)

    by : (b : Bool) → ((j : ℕ) → nth_where p zero xs ≡ Some j → j < length xs) → (if b then Some 0 else option_map (λ i. i + 1) (nth_where p zero xs)) ≡ Some i → i < suc (length xs)
    by true h e = let same : 0 ≡ i = cc in omega arith
    by false h e = more (nth_where p zero xs) h e
nth_inside p (suc n) (x ∷ xs) i e = by (p x) (λ j h. nth_inside p n xs j h) (λ j h. nth_inside p (suc n) xs j h) e
  where
    more : (o : Option ℕ) → ((j : ℕ) → o ≡ Some j → j < length xs) → option_map (λ i. i + 1) o ≡ Some i → i < suc (length xs)
    more None h e = absurd (cc)
    more (Some j) h e = let same : j + 1 ≡ i = cc in let lt = h j refl in omega (arith, lt)

    by : (b : Bool) → ((j : ℕ) → nth_where p n xs ≡ Some j → j < length xs) → ((j : ℕ) → nth_where p (suc n) xs ≡ Some j → j < length xs)
        → option_map (λ i. i + 1) (if b then nth_where p n xs else nth_where p (suc n) xs) ≡ Some i → i < suc (length xs)
    by true h g e = more (nth_where p n xs) h e
    by false h g e = more (nth_where p (suc n) xs) g e
