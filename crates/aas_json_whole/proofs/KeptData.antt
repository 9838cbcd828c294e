-- Kept data by its levels.
use Rattle.std.proofs.Common.{◌≡◌, ℕ, ◌+◌, suc, max, ◌<◌, ◌&&◌, nat_le, Bool, true, false, List, [], ◌∷◌, map}
use Rattle.std.proofs.Common.{refl, sym, ap, ap₂, ◌∙◌, arith, rules, le-leb, length, drop, get_or, not}
use Rattle.std.proofs.Common.{Ordering, Less, Equal, Greater, is_ge, is_lt}
use Rattle.std.specs.Cmp.{both_ways}
use Rattle.std.specs.Cmp.Lexicographic.{nat_list_cmp_total, slice_cmp}
use Rattle.std.specs.List.{list_all}
use Rattle.std.specs.Ordering.{nat_cmp}
use Rattle.std.proofs.lemmas.Bool.{and_from, and_parts, leb-true}
use Rattle.aas_json_mapping.specs.Whole.{whole_kept}
use Rattle.aas_json_spelling.specs.Kept.{are_rising, each_true, is_below, is_ordered, most, plain_depth}
use Rattle.aas_json_spelling.proofs.Kept.{depth_at, ordered_at}
use Rattle.aas_json_table.specs.TooDeep.{limits}
use Rattle.aas_lemmas.proofs.Lists.{drop_at}
use Rattle.aas_lemmas.proofs.Truth.{Less-from_is_lt, and_left, and_right}
use Rattle.aas_model.specs.declared.plain.Plain.{Plain, List as PlainList, Map, roll-Plain, the_lemmas}
use Rattle.aas_model.specs.declared.plain.Plain.TheOpen.{Plain-F}
use Rattle.aas_model.specs.declared.plain.PlainPair.{PlainPair}
use Rattle.aas_json_whole.specs.KeptData.{is_whole_pair, is_whole_plain, name_of}
use Rattle.aas_json_whole.proofs.Nesting.{one_more}

-- ---- each of a list

both_low : (n m left : ℕ) → nat_le (max n m) left ≡ nat_le n left && nat_le m left
both_low n m left = both_ways _ _
    (λ e. let low = leb-true (max n m) left e in
    and_from (nat_le n left) (nat_le m left) (le-leb n left (omega (arith, low))) (le-leb m left (omega (arith, low))))
    (λ e. let low = and_parts (nat_le n left) (nat_le m left) e in
    le-leb (max n m) left (omega (arith, leb-true n left low.0, leb-true m left low.1)))

in_turn : (a b c d : Bool) → (a && b) && (c && d) ≡ (a && c) && (b && d)
in_turn true true c d = refl
in_turn true false true d = refl
in_turn true false false d = refl
in_turn false b c d = refl

-- a test of each, and a bound for each
each_low : {X : Type 0} (test : X → Bool) (depth : X → ℕ) (left : ℕ) (xs : List X)
    → list_all (λ x. test x && nat_le (depth x) left) xs
    ≡ (each_true (map test xs) && nat_le (most (map depth xs)) left)
each_low test depth left [] = sym (le-leb 0 left (omega arith))
each_low test depth left (x ∷ xs) =
    ap (λ b. (test x && nat_le (depth x) left) && b) (each_low test depth left xs)
    ∙ in_turn (test x) (nat_le (depth x) left) (each_true (map test xs)) (nat_le (most (map depth xs)) left)
    ∙ ap (λ b. (test x && each_true (map test xs)) && b) (sym (both_low (depth x) (most (map depth xs)) left))

-- a list of kept data, which is a level itself
pub kept_level : (ps : List Plain) → list_all (is_whole_plain 11) ps ≡ whole_kept limits ps
kept_level [] = refl
kept_level (p ∷ ps) =
    each_low is_ordered plain_depth 11 (p ∷ ps)
    ∙ ap (λ b. each_true (map is_ordered (p ∷ ps)) && b) (sym (one_more (most (map plain_depth (p ∷ ps))) 12 11 refl))

-- ---- one level

rolled_list : (ps : List Plain) → roll-Plain (Plain-F.List ps) ≡ PlainList ps
rolled_list ps = search (rules, the_lemmas)

rolled_map : (ms : List PlainPair) → roll-Plain (Plain-F.Map ms) ≡ Map ms
rolled_map ms = search (rules, the_lemmas)

pub list_level : (ps : List Plain) (left m : ℕ) → left ≡ suc m
    → list_all (is_whole_plain m) ps ≡ is_whole_plain left (PlainList ps)
list_level ps left m spent =
    each_low is_ordered plain_depth m ps
    ∙ sym (ap₂ (λ a b. a && b) (ordered_at (Plain-F.List ps))
    (ap (λ n. nat_le n left) (depth_at (Plain-F.List ps)) ∙ one_more (most (map plain_depth ps)) left m spent))
    ∙ ap (is_whole_plain left) (rolled_list ps)

pub map_level : (ms : List PlainPair) (left m : ℕ) → left ≡ suc m
    → (are_rising (map name_of ms) && list_all (is_whole_pair m) ms) ≡ is_whole_plain left (Map ms)
map_level ms left m spent =
    let rise : Bool = are_rising (map name_of ms) in
    let ordered : Bool = each_true (map (λ m. is_ordered m.value) ms) in
    let levels : ℕ = most (map (λ m. plain_depth m.value) ms) in
    ap (λ b. rise && b) (each_low (λ m. is_ordered m.value) (λ m. plain_depth m.value) m ms)
    ∙ joined rise ordered (nat_le levels m)
    ∙ sym (ap₂ (λ a b. a && b) (ordered_at (Plain-F.Map ms))
    (ap (λ n. nat_le n left) (depth_at (Plain-F.Map ms)) ∙ one_more levels left m spent))
    ∙ ap (is_whole_plain left) (rolled_map ms)
  where
    joined : (a b c : Bool) → a && (b && c) ≡ (a && b) && c
    joined true b c = refl
    joined false b c = refl

-- ---- names

below_all : (n m : List ℕ) (ns : List (List ℕ)) → is_lt (slice_cmp nat_cmp n m) ≡ true → is_below m ns ≡ true
    → is_below n ns ≡ true
below_all n m [] lt below = refl
below_all n m (k ∷ ns) lt below =
    let less : slice_cmp nat_cmp n k ≡ Less =
    nat_list_cmp_total.trans n m k (Less-from_is_lt (slice_cmp nat_cmp n m) lt)
    (Less-from_is_lt (slice_cmp nat_cmp m k) (and_left (is_lt (slice_cmp nat_cmp m k)) (is_below m ns) below)) in
    and_from (is_lt (slice_cmp nat_cmp n k)) (is_below n ns) (ap is_lt less)
    (below_all n m ns lt (and_right (is_lt (slice_cmp nat_cmp m k)) (is_below m ns) below))

-- neighbours tell it
pub rising_next : (n m : List ℕ) (ns : List (List ℕ))
    → are_rising (n ∷ m ∷ ns) ≡ (is_lt (slice_cmp nat_cmp n m) && are_rising (m ∷ ns))
rising_next n m ns =
    let lt : Bool = is_lt (slice_cmp nat_cmp n m) in
    let rest : Bool = are_rising (m ∷ ns) in
    both_ways _ _
    (λ e. and_from lt rest
    (and_left lt (is_below n ns) (and_left (lt && is_below n ns) rest e)) (and_right (lt && is_below n ns) rest e))
    (λ e. and_from (lt && is_below n ns) rest
    (and_from lt (is_below n ns) (and_left lt rest e)
    (below_all n m ns (and_left lt rest e) (and_left (is_below m ns) (are_rising ns) (and_right lt rest e))))
    (and_right lt rest e))

-- ---- along a map

names_from : (before pair : PlainPair) (ms : List PlainPair) (i : ℕ) → i < length ms → pair ≡ get_or ms i pair
    → are_rising (map name_of (before ∷ drop i ms))
    ≡ (is_lt (slice_cmp nat_cmp (name_of before) (name_of pair)) && are_rising (map name_of (pair ∷ drop (i + 1) ms)))
names_from before pair ms i below at =
    ap (λ xs. are_rising (map name_of (before ∷ xs))) (drop_at ms i pair below at)
    ∙ rising_next (name_of before) (name_of pair) (map name_of (drop (i + 1) ms))

-- the next pair is where it should be, or not
pub names_next : (before pair : PlainPair) (ms : List PlainPair) (i : ℕ) → i < length ms → pair ≡ get_or ms i pair
    → is_lt (slice_cmp nat_cmp (name_of before) (name_of pair)) ≡ true
    → are_rising (map name_of (before ∷ drop i ms)) ≡ are_rising (map name_of (pair ∷ drop (i + 1) ms))
names_next before pair ms i below at lt =
    names_from before pair ms i below at ∙ ap (λ b. b && are_rising (map name_of (pair ∷ drop (i + 1) ms))) lt

pub names_fall : (before pair : PlainPair) (ms : List PlainPair) (i : ℕ) → i < length ms → pair ≡ get_or ms i pair
    → is_lt (slice_cmp nat_cmp (name_of before) (name_of pair)) ≡ false
    → are_rising (map name_of (before ∷ drop i ms)) ≡ false
names_fall before pair ms i below at not_lt =
    names_from before pair ms i below at ∙ ap (λ b. b && are_rising (map name_of (pair ∷ drop (i + 1) ms))) not_lt

-- what `>=` tells of two names
pub lt_from_ge : (o : Ordering) (b : Bool) → b ≡ is_ge o → is_lt o ≡ not b
lt_from_ge Less b e = ap not (sym e)
lt_from_ge Equal b e = ap not (sym e)
lt_from_ge Greater b e = ap not (sym e)
