-- Ranks that are merged.
use Rattle.std.proofs.Common.{◌≡◌, ℕ, zero, suc, ◌+◌, ◌-◌, ◌<◌, ◌≤◌, true, false, List, [], ◌∷◌, ◌++◌, length, get_or}
use Rattle.std.proofs.Common.{take, drop, refl, sym, ap, ap₂, ◌∙◌, subst, append_assoc, arith}
use Rattle.std.proofs.Common.{length-append, length-drop}
use Rattle.std.specs.List.{AllByRecursion, AllWithin, slice_range}
use Rattle.std.specs.List.Sorted.{IsSorted, IsPermutation}
use Rattle.std.specs.Ordering.{is_lt}
use Rattle.std.proofs.lemmas.List.{take-append-drop, length-take-le, take-take, drop-drop, drop-take}
use Rattle.std.proofs.lemmas.List.{drop_more, get_or-drop}
use Rattle.std.proofs.lemmas.List.Elements.{recursion_from_All}
use Rattle.std.proofs.lemmas.List.Sorted.{IsPermutation-append, IsPermutation-cons}
use Rattle.std.proofs.lemmas.Slice.{between_is}
use borrow.Rule.Slice.PartMut.{put_mid, mid_of}
use Rattle.aas_sheet_index.specs.Index.{order}
use Rattle.aas_sheet_index.specs.Merging.{Divided}
use Rattle.aas_sheet_index.specs.declared.side.Side.{Side}
use Rattle.aas_sheet_index.proofs.Ordered.{is_less, weak}
use Rattle.aas_sheet_index.proofs.Spliced.{drop_seam, take_seam}
use Rattle.aas_sheet_index.proofs.Rising.{Rises, each_both, each_permuted, each_weaker, rises_across, rises_around}
use Rattle.aas_sheet_index.proofs.Rising.{rises_back, rises_front, rises_from_sorted, sorted_from_rises}

-- two parts of a list that are exchanged
pub exchanged : {X : Type 0} (xs ys : List X) (first middle end : ℕ) → first ≤ middle → middle ≤ end → ys
    ≡ drop (middle - first) (mid_of first (end - first) xs) ++ take (middle - first) (mid_of first (end - first) xs)
    → put_mid first (end - first) xs ys
    ≡ take first xs ++ ((slice_range xs middle end ++ slice_range xs first middle) ++ drop end xs)
exchanged xs ys first middle end low high is =
    let k : ℕ = middle - first in
    let m : ℕ = end - middle in
    let front = drop first xs in
    let all : end - first ≡ k + m = omega arith in
    let to_middle : first + k ≡ middle = omega arith in
    let to_end : first + (end - first) ≡ end = omega arith in
    let back : drop k (take (end - first) front) ≡ slice_range xs middle end = ap (λ n. drop k (take n front)) all
    ∙ drop-take k m front ∙ ap (take m) (drop-drop k first xs ∙ ap (λ n. drop n xs) to_middle) in
    let ahead : take k (take (end - first) front) ≡ slice_range xs first middle =
    take-take k (end - first) front (omega arith) in
    ap (λ zs. take first xs ++ zs)
    (ap₂ (λ a b. a ++ b) (is ∙ ap₂ (λ a b. a ++ b) back ahead)
    (drop-drop (end - first) first xs ∙ ap (λ n. drop n xs) to_end))

module _ {X : Type 0} (P : X → Type 0) where
  each_below : (n : ℕ) (xs : List X) → AllWithin P xs 0 n → AllByRecursion P (take n xs)
  each_below zero xs a = tt
  each_below (suc n) [] a = tt
  each_below (suc n) (x ∷ xs) a =
      (a 0 x (omega arith) (omega arith), each_below n xs (λ k d low high. a (suc k) d (omega arith) (omega arith)))

  each_from : (n : ℕ) (xs : List X) → AllWithin P xs n (length xs) → AllByRecursion P (drop n xs)
  each_from zero xs a = recursion_from_All P xs (λ k d high. a k d (omega arith) high)
  each_from (suc n) [] a = tt
  each_from (suc n) (x ∷ xs) a = each_from n xs (λ k d low high. a (suc k) d (omega arith) (omega arith))

regrouped : (one two three four : List ℕ) (x : ℕ)
    → one ++ (((two ++ x ∷ []) ++ three) ++ four) ≡ (one ++ two) ++ x ∷ (three ++ four)
regrouped one two three four x = simp append_assoc

pub divided : (ss : List Side) (ranks new ahead : List ℕ) (kept middle place : ℕ)
    → ahead ≡ take kept ranks → kept ≤ middle → middle < length ranks → place ≤ kept
    → IsSorted (order ss) (take kept ranks) → IsSorted (order ss) (drop kept ranks)
    → AllWithin (λ r. is_lt (order ss r (get_or ranks middle 0)) ≡ true) ahead 0 place
    → AllWithin (λ r. is_lt (order ss r (get_or ranks middle 0)) ≡ false) ahead place (length ahead)
    → new ≡ take place ranks
    ++ ((slice_range ranks kept (middle + 1) ++ slice_range ranks place kept) ++ drop (middle + 1) ranks)
    → Divided ss new place (place + (middle - kept)) (kept - place)
divided ss ranks new ahead kept middle place front low inside before front_sorted back_sorted less others is =
    let x : ℕ = get_or ranks middle 0 in
    let n : ℕ = middle - kept in
    let rest : List ℕ = drop kept ranks in
    let one : List ℕ = take place ahead in
    let two : List ℕ = take n rest in
    let three : List ℕ = drop place ahead in
    let four : List ℕ = drop (n + 1) rest in
    let rest_long : length rest ≡ length ranks - kept = length-drop kept ranks in
    let there : kept + n ≡ middle = omega arith in
    let next : kept + (n + 1) ≡ middle + 1 = omega arith in
    let own : get_or rest n 0 ≡ x = get_or-drop kept ranks n 0 ∙ ap (λ m. get_or ranks m 0) there in
    let rest_is : rest ≡ two ++ x ∷ four =
    sym (take-append-drop n rest) ∙ ap (λ ys. two ++ ys) (drop_more rest n 0 (omega arith) ∙ ap (λ y. y ∷ four) own) in
    let ahead_is : ahead ≡ one ++ three = sym (take-append-drop place ahead) in
    let ahead_long : length ahead ≡ kept = ap length front ∙ length-take-le kept ranks (omega arith) in
    let two_long : length two ≡ n = length-take-le n rest (omega arith) in
    let one_long : length one ≡ place = length-take-le place ahead (omega arith) in
    let both_long = length-append two (x ∷ []) in
    let order_ahead : Rises (is_less ss) (one ++ three) = subst (Rises (is_less ss))
    (sym front ∙ ahead_is) (rises_from_sorted (is_less ss) (weak ss) (take kept ranks) front_sorted) in
    let order_rest : Rises (is_less ss) (two ++ x ∷ four) =
    subst (Rises (is_less ss)) rest_is (rises_from_sorted (is_less ss) (weak ss) rest back_sorted) in
    let w = weak ss in record {
      one = one;
      two = two;
      middle = x;
      three = three;
      four = four;
      whole = is
          ∙ ap₂ (λ a b. a ++ b) (sym (take-take place kept ranks before) ∙ ap (take place) (sym front))
          (ap₂ (λ a b. a ++ b)
          (ap₂ (λ a b. a ++ b) (take_seam rest (two ++ x ∷ []) four (middle + 1 - kept)
          (rest_is ∙ sym (append_assoc two (x ∷ []) four)) (omega (arith, both_long, two_long)))
          (between_is ranks place kept ∙ ap (drop place) (sym front)))
          (sym (drop-drop (n + 1) kept ranks ∙ ap (λ m. drop m ranks) next)))
          ∙ regrouped one two three four x;
      ends = one_long;
      stands = length-append one two ∙ ap₂ (λ a b. a + b) one_long two_long;
      goes_on = length-drop place ahead ∙ ap (λ m. m - place) ahead_long;
      one_sorted = sorted_from_rises (is_less ss) one (rises_front (is_less ss) one three order_ahead);
      two_sorted = sorted_from_rises (is_less ss) two (rises_front (is_less ss) two (x ∷ four) order_rest);
      three_sorted = sorted_from_rises (is_less ss) three (rises_back (is_less ss) one three order_ahead);
      four_sorted = sorted_from_rises (is_less ss) four (rises_back (is_less ss) two (x ∷ four) order_rest).1;
      before = each_both (λ r. is_less ss x r ≡ false) one two
          (each_weaker (λ r. is_less ss r x ≡ true) (λ r. is_less ss x r ≡ false)
          (λ r e. w.one_way r x e) one (each_below (λ r. is_less ss r x ≡ true) place ahead less))
          (each_weaker (λ t. AllByRecursion (λ y. is_less ss y t ≡ false) (x ∷ four))
          (λ t. is_less ss x t ≡ false) (λ t a. a.0) two (rises_across (is_less ss) two (x ∷ four) order_rest));
      behind =
          each_both (λ r. is_less ss r x ≡ false) three four
          (each_from (λ r. is_less ss r x ≡ false) place ahead others)
          (rises_back (is_less ss) two (x ∷ four) order_rest).0;
    }

-- the two sides of the one that stands in its place
pub record Halves (ss : List Side) (ranks front back : List ℕ) (place at rest : ℕ) (middle : ℕ) : Type 0 where
  pub within : at < length ranks
  pub one_more : drop at front ≡ middle ∷ []
  pub shorter : length (take at front) < length ranks
  pub low : place ≤ length (take at front)
  pub one : IsSorted (order ss) (take place (take at front))
  pub two : IsSorted (order ss) (drop place (take at front))
  pub short : length back < length ranks
  pub high : rest ≤ length back
  pub three : IsSorted (order ss) (take rest back)
  pub four : IsSorted (order ss) (drop rest back)
  pub before : AllByRecursion (λ r. is_less ss middle r ≡ false) (take at front)
  pub behind : AllByRecursion (λ r. is_less ss r middle ≡ false) back
  pub whole : ranks ≡ take at front ++ middle ∷ back

-- a list that two lists in order make up is in order on both sides of their seam
sides_sorted : (ss : List Side) (ranks one two : List ℕ) (place : ℕ) → ranks ≡ one ++ two → length one ≡ place
    → IsSorted (order ss) one → IsSorted (order ss) two
    → IsSorted (order ss) (take place ranks) × IsSorted (order ss) (drop place ranks)
sides_sorted ss ranks one two place is ends one_sorted two_sorted = (
  subst (IsSorted (order ss)) (sym (take_seam ranks one two place is ends)) one_sorted,
  subst (IsSorted (order ss)) (sym (drop_seam ranks one two place is ends)) two_sorted,
)

pub halves : (ss : List Side) (ranks front back : List ℕ) (place at rest : ℕ) (d : Divided ss ranks place at rest)
    → front ≡ take (at + 1) ranks → back ≡ drop (at + 1) ranks → Halves ss ranks front back place at rest d.middle
halves ss ranks front back place at rest d front_is back_is =
    let one = d.one in
    let two = d.two in
    let three = d.three in
    let four = d.four in
    let x = d.middle in
    let ends = d.ends in
    let stands = d.stands in
    let goes_on = d.goes_on in
    let parted : ranks ≡ ((one ++ two) ++ x ∷ []) ++ (three ++ four) =
    d.whole ∙ sym (append_assoc (one ++ two) (x ∷ []) (three ++ four)) in
    let next : length ((one ++ two) ++ x ∷ []) ≡ at + 1 =
    length-append (one ++ two) (x ∷ []) ∙ ap (λ n. n + 1) stands in
    let front_parts : front ≡ (one ++ two) ++ x ∷ [] =
    front_is ∙ take_seam ranks ((one ++ two) ++ x ∷ []) (three ++ four) (at + 1) parted next in
    let back_parts : back ≡ three ++ four =
    back_is ∙ drop_seam ranks ((one ++ two) ++ x ∷ []) (three ++ four) (at + 1) parted next in
    let front_one : take at front ≡ one ++ two = take_seam front (one ++ two) (x ∷ []) at front_parts stands in
    let all_long : length ranks ≡ at + 1 + length (three ++ four) = ap length parted
    ∙ length-append ((one ++ two) ++ x ∷ []) (three ++ four) ∙ ap (λ n. n + length (three ++ four)) next in
    let front_long : length (take at front) ≡ at = ap length front_one ∙ stands in
    let back_long : length back ≡ length (three ++ four) = ap length back_parts in
    let two_parts = length-append one two in
    let four_parts = length-append three four in
    let ahead = sides_sorted ss (take at front) one two place front_one ends d.one_sorted d.two_sorted in
    let behind = sides_sorted ss back three four rest back_parts goes_on d.three_sorted d.four_sorted in record {
      within = omega (arith, all_long);
      one_more = drop_seam front (one ++ two) (x ∷ []) at front_parts stands;
      shorter = omega (arith, all_long, front_long);
      low = omega (arith, front_long, two_parts, ends, stands);
      one = ahead.0;
      two = ahead.1;
      short = omega (arith, all_long, back_long);
      high = omega (arith, back_long, four_parts, goes_on);
      three = behind.0;
      four = behind.1;
      before = subst (AllByRecursion (λ r. is_less ss x r ≡ false)) (sym front_one) d.before;
      behind = subst (AllByRecursion (λ r. is_less ss r x ≡ false)) (sym back_parts) d.behind;
      whole = d.whole ∙ ap₂ (λ a b. a ++ x ∷ b) (sym front_one) (sym back_parts);
    }

pub joined : (ss : List Side) (ranks front back new more : List ℕ) (place at rest middle : ℕ)
    → Halves ss ranks front back place at rest middle → IsSorted (order ss) new
    → IsPermutation (take at front) new → IsSorted (order ss) more → IsPermutation back more
    → (IsSorted (order ss) ((new ++ drop at front) ++ more)) × IsPermutation ranks ((new ++ drop at front) ++ more)
joined ss ranks front back new more place at rest middle h new_sorted new_same more_sorted more_same =
    let shape : (new ++ drop at front) ++ more ≡ new ++ middle ∷ more =
    ap (λ ys. (new ++ ys) ++ more) h.one_more ∙ append_assoc new (middle ∷ []) more in
    let sorted : IsSorted (order ss) (new ++ middle ∷ more) =
    sorted_from_rises (is_less ss) (new ++ middle ∷ more)
    (rises_around (is_less ss) (weak ss) new middle more (rises_from_sorted (is_less ss) (weak ss) new new_sorted)
    (rises_from_sorted (is_less ss) (weak ss) more more_sorted)
    (each_permuted (λ r. is_less ss middle r ≡ false) (take at front) new new_same h.before)
    (each_permuted (λ r. is_less ss r middle ≡ false) back more more_same h.behind)) in
    let same : IsPermutation (take at front ++ middle ∷ back) (new ++ middle ∷ more) =
    IsPermutation-append (take at front) new (middle ∷ back)
    (middle ∷ more) new_same (IsPermutation-cons middle back more more_same) in (
      subst (IsSorted (order ss)) (sym shape) sorted,
      subst (λ xs. IsPermutation xs ((new ++ drop at front) ++ more)) (sym h.whole)
          (subst (IsPermutation (take at front ++ middle ∷ back)) (sym shape) same),
    )

pub all_behind : (ss : List Side) (ranks : List ℕ) (kept : ℕ)
    → kept ≡ 0 → IsSorted (order ss) (drop kept ranks) → IsSorted (order ss) ranks
all_behind ss ranks kept none sorted = subst (λ n. IsSorted (order ss) (drop n ranks)) none sorted

pub all_before : (ss : List Side) (ranks : List ℕ) (kept : ℕ)
    → kept ≡ length ranks → IsSorted (order ss) (take kept ranks) → IsSorted (order ss) ranks
all_before ss ranks kept all sorted = subst (IsSorted (order ss)) (ap (λ n. take n ranks) all ∙ take_all ranks) sorted
  where
    take_all : (xs : List ℕ) → take (length xs) xs ≡ xs
    take_all [] = refl
    take_all (x ∷ xs) = ap (λ ys. x ∷ ys) (take_all xs)
