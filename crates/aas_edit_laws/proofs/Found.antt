-- What is found in a list where one item is another, is taken out, or comes behind.
use Rattle.std.proofs.Common.{◌≡◌, ℕ, zero, suc, ◌<◌, ◌≤◌, Bool, true, false, cond, List, [], ◌∷◌, ◌++◌, Some, slice_get, slice_set, refl, sym, ap, ◌∙◌, arith}
use Rattle.std.specs.Prelude.{find, remove}

module _ {X : Type 0} where
  pub get_set : (xs : List X) (i : ℕ) (x w : X) → slice_get xs i ≡ Some x → slice_get (slice_set xs i w) i ≡ Some w
  get_set [] i x w at = absurd (cc)
  get_set (y ∷ xs) zero x w at = refl
  get_set (y ∷ xs) (suc i) x w at = get_set xs i x w at

  pub get_set_other : (xs : List X) (i j : ℕ) (w : X) → (i ≡ j → ⊥) → slice_get (slice_set xs i w) j ≡ slice_get xs j
  get_set_other [] i j w apart = refl
  get_set_other (y ∷ xs) zero zero w apart = absurd (apart refl)
  get_set_other (y ∷ xs) zero (suc j) w apart = refl
  get_set_other (y ∷ xs) (suc i) zero w apart = refl
  get_set_other (y ∷ xs) (suc i) (suc j) w apart = get_set_other xs i j w (λ e. apart (ap suc e))

  pub get_before : (xs : List X) (i j : ℕ) → j < i → slice_get (remove xs i) j ≡ slice_get xs j
  get_before [] zero j below = refl
  get_before [] (suc i) j below = refl
  get_before (y ∷ xs) zero j below = absurd (omega (arith, below))
  get_before (y ∷ xs) (suc i) zero below = refl
  get_before (y ∷ xs) (suc i) (suc j) below = get_before xs i j (omega (arith, below))

  pub get_behind : (xs : List X) (i j : ℕ) → i ≤ j → slice_get (remove xs i) j ≡ slice_get xs (suc j)
  get_behind [] zero j above = refl
  get_behind [] (suc i) j above = refl
  get_behind (y ∷ xs) zero j above = refl
  get_behind (y ∷ xs) (suc i) zero above = absurd (omega (arith, above))
  get_behind (y ∷ xs) (suc i) (suc j) above = get_behind xs i j (omega (arith, above))

  pub get_more : (xs ys : List X) (i : ℕ) (x : X) → slice_get xs i ≡ Some x → slice_get (xs ++ ys) i ≡ Some x
  get_more [] ys i x at = absurd (cc)
  get_more (y ∷ xs) ys zero x at = at
  get_more (y ∷ xs) ys (suc i) x at = get_more xs ys i x at

  module _ (test : X → Bool) where
    pub find_set_other : (xs : List X) (i : ℕ) (x w : X) → slice_get xs i ≡ Some x → test x ≡ false → test w ≡ false
        → find test (slice_set xs i w) ≡ find test xs
    find_set_other [] i x w at a b = absurd (cc)
    find_set_other (y ∷ xs) zero x w at a b =
        let same : y ≡ x = cc in ap (λ t. cond t (Some w) (find test xs)) b ∙ sym (ap (λ t. cond t (Some y) (find test xs)) (ap test same ∙ a))
    find_set_other (y ∷ xs) (suc i) x w at a b = ap (cond (test y) (Some y)) (find_set_other xs i x w at a b)

    pub find_without : (xs : List X) (i : ℕ) (x : X) → slice_get xs i ≡ Some x → test x ≡ false → find test (remove xs i) ≡ find test xs
    find_without [] i x at a = absurd (cc)
    find_without (y ∷ xs) zero x at a = let same : y ≡ x = cc in sym (ap (λ t. cond t (Some y) (find test xs)) (ap test same ∙ a))
    find_without (y ∷ xs) (suc i) x at a = ap (cond (test y) (Some y)) (find_without xs i x at a)

    pub find_more : (xs ys : List X) (x : X) → find test xs ≡ Some x → find test (xs ++ ys) ≡ Some x
    find_more [] ys x is = absurd (cc)
    find_more (y ∷ xs) ys x is = by_test (test y) (find_more xs ys x) is
      where
        by_test : (b : Bool) → (find test xs ≡ Some x → find test (xs ++ ys) ≡ Some x) → cond b (Some y) (find test xs) ≡ Some x
            → cond b (Some y) (find test (xs ++ ys)) ≡ Some x
        by_test true h is = is
        by_test false h is = h is
