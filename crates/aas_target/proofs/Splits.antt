-- A separator splits bytes at its first place, if it stands in them.
use Rattle.std.proofs.Common.{◌≡◌, ℕ, zero, suc, ◌<◌, true, false, cond, ◌==◌, List, [], ◌∷◌, length, take, drop, get_or, refl, ap, ◌∙◌, arith, lit<}
use Rattle.std.proofs.lemmas.Bool.{cond-true, cond-false}
use Rattle.form_urlencoded.specs.Form.{onto_first, split}

-- it stands at i and not before
pub split_at : (s : ℕ) (bs : List ℕ) (i : ℕ) → i < length bs → ((k : ℕ) → k < i → (get_or bs k 0 == s) ≡ false)
    → (get_or bs i 0 == s) ≡ true → split s bs ≡ take i bs ∷ split s (drop (suc i) bs)
unfolding split
split_at s [] i inside before here = absurd (omega arith)
split_at s (b ∷ bs) zero inside before here = cond-true _ _ _ here
split_at s (b ∷ bs) (suc i) inside before here =
    cond-false _ _ _ (before zero (omega arith))
    ∙ ap (onto_first b) (split_at s bs i (omega arith) (λ k l. before (suc k) (omega arith)) here)

-- it stands nowhere
pub split_nowhere : (s : ℕ) (bs : List ℕ) → ((k : ℕ) → k < length bs → (get_or bs k 0 == s) ≡ false) → split s bs ≡ bs ∷ []
unfolding split
split_nowhere s [] none = refl
split_nowhere s (b ∷ bs) none =
    cond-false _ _ _ (none zero (omega arith)) ∙ ap (onto_first b) (split_nowhere s bs (λ k l. none (suc k) (omega arith)))

onto_some : (b : ℕ) (pieces : List (List ℕ)) → 0 < length (onto_first b pieces)
onto_some b [] = lit< tt
onto_some b (piece ∷ pieces) = omega arith

-- there is a piece
pub some_piece : (s : ℕ) (bs : List ℕ) → 0 < length (split s bs)
unfolding split
some_piece s [] = lit< tt
some_piece s (b ∷ bs) = elim (b == s) as (λ t. 0 < length (cond t ([] ∷ split s bs) (onto_first b (split s bs)))) [
  | true ↦ omega arith
  | false ↦ onto_some b (split s bs)
]
