-- The lowest of some numbers.
use Rattle.std.proofs.Common.{◌≡◌, inl, inr, ℕ, ◌+◌, ◌<◌, ◌≤◌, List, length, None, Some, refl, sym, ◌∙◌, subst, arith}
use Rattle.std.proofs.Common.{below_more, slice_get}
use Rattle.std.specs.Option.{option_and_then}
use Rattle.std.specs.declared.option.Option.{Option}
use Rattle.std.proofs.lemmas.Option.{none-some, same_Some, slice_get_within}
use Rattle.aas_clients.specs.Earliest.{IsBetter, IsEarliest, IsNoHigher}

module _ (number_at : ℕ → Option ℕ) where
  earliest_new : (n t : ℕ) → number_at n ≡ Some t → ((k : ℕ) → k < n → (m : ℕ) → number_at k ≡ Some m → t ≤ m)
      → IsEarliest (Some (n, t)) number_at (n + 1)
  earliest_new n t here below = (
    here,
    below_more (λ k. (m : ℕ) → number_at k ≡ Some m → t ≤ m) n below
        (λ m is. let e = same_Some t m (sym here ∙ is) in omega arith),
  )

  earliest_old : (found : Option (ℕ × ℕ)) (n : ℕ) → IsEarliest found number_at n
      → ((m : ℕ) → number_at n ≡ Some m → IsNoHigher found m) → IsEarliest found number_at (n + 1)
  earliest_old found n so_far here =
      (so_far.0, below_more (λ k. (m : ℕ) → number_at k ≡ Some m → IsNoHigher found m) n so_far.1 here)

  pub earliest_step : (found result : Option (ℕ × ℕ)) (n : ℕ) (number : Option ℕ) → number_at n ≡ number
      → IsBetter found n number result → IsEarliest found number_at n → IsEarliest result number_at (n + 1)
  earliest_step found result n None here better so_far =
      subst (λ (f : Option (ℕ × ℕ)). IsEarliest f number_at (n + 1)) (sym better)
      (earliest_old found n so_far (λ m is. absurd (none-some m (sym here ∙ is))))
  earliest_step None result n (Some t) here better so_far =
      subst (λ (f : Option (ℕ × ℕ)). IsEarliest f number_at (n + 1)) (sym better)
      (earliest_new n t here (λ k below m is. absurd (so_far.1 k below m is)))
  earliest_step (Some best) result n (Some t) here (inl (less, is_it)) so_far =
      subst (λ (f : Option (ℕ × ℕ)). IsEarliest f number_at (n + 1)) (sym is_it)
      (earliest_new n t here (λ k below m is. let e = so_far.1 k below m is in omega arith))
  earliest_step (Some best) result n (Some t) here (inr (more, is_it)) so_far =
      subst (λ (f : Option (ℕ × ℕ)). IsEarliest f number_at (n + 1)) (sym is_it)
      (earliest_old (Some best) n so_far (λ m is. let e = same_Some t m (sym here ∙ is) in omega arith))

-- ---- behind all places

within : {X : Type 0} (key : X → Option ℕ) (found : Option X) (xs : List X) (k m : ℕ)
    → slice_get xs k ≡ found → option_and_then key found ≡ Some m → k < length xs
within key None xs k m at is = absurd (none-some m is)
within key (Some x) xs k m at is = slice_get_within xs k x at

pub earliest_some : {X : Type 0} (key : X → Option ℕ) (xs : List X) (found : Option (ℕ × ℕ)) (best : ℕ × ℕ)
    → found ≡ Some best → IsEarliest found (λ k. option_and_then key (slice_get xs k)) (length xs)
    → (n : ℕ) × (option_and_then key (slice_get xs best.0) ≡ Some n)
    × ((k m : ℕ) → option_and_then key (slice_get xs k) ≡ Some m → n ≤ m)
earliest_some key xs found best is all =
    let E =
    subst (λ (f : Option (ℕ × ℕ)). IsEarliest f (λ k. option_and_then key (slice_get xs k)) (length xs)) is all in
    (best.1, E.0, λ k m at. E.1 k (within key (slice_get xs k) xs k m refl at) m at)

pub earliest_none : {X : Type 0} (key : X → Option ℕ) (xs : List X) (found : Option (ℕ × ℕ))
    → found ≡ None → IsEarliest found (λ k. option_and_then key (slice_get xs k)) (length xs)
    → (k m : ℕ) → option_and_then key (slice_get xs k) ≡ Some m → ⊥
earliest_none key xs found is all k m at =
    let E =
    subst (λ (f : Option (ℕ × ℕ)). IsEarliest f (λ k. option_and_then key (slice_get xs k)) (length xs)) is all in
    E.1 k (within key (slice_get xs k) xs k m refl at) m at
