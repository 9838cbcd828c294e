-- Lists in order, part by part.
use Rattle.std.proofs.Common.{◌≡◌, ℕ, zero, suc, ◌+◌, ◌<◌, Bool, false, List, [], ◌∷◌, ◌++◌, length, get_or, sym, ap}
use Rattle.std.proofs.Common.{◌∙◌, arith, add-one}
use Rattle.std.specs.Cmp.{IsStrictWeakOrder}
use Rattle.std.specs.List.{All, AllByRecursion}
use Rattle.std.specs.List.Sorted.{IsSortedBy, IsPermutation}
use Rattle.std.proofs.lemmas.List.Elements.{All-from_recursion, recursion_from_All}
use Rattle.std.proofs.lemmas.List.Sorted.{All-permutation, sorted_far}

-- no later one is less
abbrev pub Rises : {X : Type 0} → (X → X → Bool) → List X → Type 0
Rises lt [] = Unit {0}
Rises lt (x ∷ xs) = AllByRecursion (λ y. lt y x ≡ false) xs × Rises lt xs

-- none of ys is less than one of xs
abbrev pub NoneLess : {X : Type 0} → (X → X → Bool) → List X → List X → Type 0
NoneLess lt xs ys = AllByRecursion (λ x. AllByRecursion (λ y. lt y x ≡ false) ys) xs

module _ {X : Type 0} (P : X → Type 0) where
  pub each_both : (xs ys : List X) → AllByRecursion P xs → AllByRecursion P ys → AllByRecursion P (xs ++ ys)
  each_both [] ys a b = b
  each_both (x ∷ xs) ys a b = (a.0, each_both xs ys a.1 b)

  pub each_front : (xs ys : List X) → AllByRecursion P (xs ++ ys) → AllByRecursion P xs
  each_front [] ys a = tt
  each_front (x ∷ xs) ys a = (a.0, each_front xs ys a.1)

  pub each_back : (xs ys : List X) → AllByRecursion P (xs ++ ys) → AllByRecursion P ys
  each_back [] ys a = a
  each_back (x ∷ xs) ys a = each_back xs ys a.1

  pub each_permuted : (xs ys : List X) → IsPermutation xs ys → AllByRecursion P xs → AllByRecursion P ys
  each_permuted xs ys same a = recursion_from_All P ys (All-permutation P xs ys same (All-from_recursion P xs a))

pub each_weaker : {X : Type 0} (P Q : X → Type 0)
    → ((x : X) → P x → Q x) → (xs : List X) → AllByRecursion P xs → AllByRecursion Q xs
each_weaker P Q h [] a = tt
each_weaker P Q h (x ∷ xs) a = (h x a.0, each_weaker P Q h xs a.1)

module _ {X : Type 0} (lt : X → X → Bool) where
  pub rises_both : (xs ys : List X) → Rises lt xs → Rises lt ys → NoneLess lt xs ys → Rises lt (xs ++ ys)
  rises_both [] ys a b c = b
  rises_both (x ∷ xs) ys a b c = (each_both (λ y. lt y x ≡ false) xs ys a.0 c.0, rises_both xs ys a.1 b c.1)

  pub rises_front : (xs ys : List X) → Rises lt (xs ++ ys) → Rises lt xs
  rises_front [] ys a = tt
  rises_front (x ∷ xs) ys a = (each_front (λ y. lt y x ≡ false) xs ys a.0, rises_front xs ys a.1)

  pub rises_back : (xs ys : List X) → Rises lt (xs ++ ys) → Rises lt ys
  rises_back [] ys a = a
  rises_back (x ∷ xs) ys a = rises_back xs ys a.1

  pub rises_across : (xs ys : List X) → Rises lt (xs ++ ys) → NoneLess lt xs ys
  rises_across [] ys a = tt
  rises_across (x ∷ xs) ys a = (each_back (λ y. lt y x ≡ false) xs ys a.0, rises_across xs ys a.1)

  pub rises_around : IsStrictWeakOrder lt → (xs : List X) (m : X) (ys : List X) → Rises lt xs → Rises lt ys
      → AllByRecursion (λ x. lt m x ≡ false) xs → AllByRecursion (λ y. lt y m ≡ false) ys → Rises lt (xs ++ m ∷ ys)
  rises_around w xs m ys a b low high =
      rises_both xs (m ∷ ys) a (high, b)
      (each_weaker (λ x. lt m x ≡ false) (λ x. AllByRecursion (λ y. lt y x ≡ false) (m ∷ ys))
      (λ x e. (e, each_weaker (λ y. lt y m ≡ false) (λ y. lt y x ≡ false) (λ y f. w.chain y m x f e) ys high)) xs low)

  pub rises_from_sorted : IsStrictWeakOrder lt → (xs : List X) → IsSortedBy lt xs → Rises lt xs
  rises_from_sorted w [] s = tt
  rises_from_sorted w (x ∷ xs) s =
      let first : All (λ y. lt y x ≡ false) xs = λ k d within.
      sorted_far lt w (x ∷ xs) s 0 (suc k) d (omega arith) (omega arith) in
      (recursion_from_All (λ y. lt y x ≡ false) xs first, rises_from_sorted w xs (λ k d low high. rest k d high))
    where
      rest : (k : ℕ) (d : X) → k + 1 < length xs → lt (get_or xs (k + 1) d) (get_or xs k d) ≡ false
      rest k d high =
          let next : k + 1 ≡ suc k = omega arith in
          ap (λ n. lt (get_or xs n d) (get_or xs k d)) next
          ∙ ap (λ n. lt (get_or (x ∷ xs) n d) (get_or xs k d)) (sym (add-one (suc k)))
          ∙ s (suc k) d (omega arith) (omega arith)

  pub sorted_from_rises : (xs : List X) → Rises lt xs → IsSortedBy lt xs
  sorted_from_rises xs r = λ k d low high. by xs r k d high
    where
      by : (xs : List X) → Rises lt xs → (k : ℕ) (d : X)
          → k + 1 < length xs → lt (get_or xs (k + 1) d) (get_or xs k d) ≡ false
      by [] r k d high = absurd (omega arith)
      by (x ∷ []) r k d high = absurd (omega arith)
      by (x ∷ y ∷ xs) r zero d high = r.0.0
      by (x ∷ y ∷ xs) r (suc k) d high =
          ap (λ n. lt (get_or (x ∷ y ∷ xs) n d) (get_or (y ∷ xs) k d)) (add-one (suc k))
          ∙ ap (λ n. lt (get_or (y ∷ xs) n d) (get_or (y ∷ xs) k d)) (sym (add-one k))
          ∙ by (y ∷ xs) r.1 k d (omega arith)
