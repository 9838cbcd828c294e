-- What a stop leaves of a keeper in memory.
use Rattle.std.proofs.Common.{◌≡◌, ◌≤◌, inl, inr, ⊎_elim, ℕ, ◌+◌, List, [], ◌∷◌, ◌++◌, length, take, sym, ◌∙◌, ap}
use Rattle.std.proofs.Common.{arith, length-append}
use Rattle.std.proofs.lemmas.List.{take_all, take-append-le}
use Rattle.std.proofs.lemmas.Bool.{cases_lt}
use Rattle.aas_outside.specs.MemKeeper.{MemKeeperState, kept_at, clock}
use Rattle.aas_outside.specs.Moments.{InTurn}

abbrev Same : List (List ℕ) → List (List ℕ) → Type 0
Same image payloads = image ≡ payloads

pub one_kept : (old new : MemKeeperState) (payloads : List (List ℕ)) (payload : List ℕ)
    → new.payloads ≡ old.payloads ++ payload ∷ [] → payloads ≡ old.payloads
    → InTurn Same (kept_at new) (clock old) (clock new) payloads (payload ∷ []) []
one_kept old new payloads payload is told =
    let size : length new.payloads ≡ length old.payloads + 1 =
    ap length is ∙ length-append old.payloads (payload ∷ []) in
    let all : new.payloads ≡ payloads ++ payload ∷ [] = is ∙ ap (λ (l : List (List ℕ)). l ++ payload ∷ []) (sym told) in
    let at_end : (t : ℕ) → length new.payloads ≤ t → take t new.payloads ≡ payloads ++ payload ∷ [] = λ t le.
    take_all t new.payloads le ∙ all in (
      clock new,
      omega (arith, size),
      λ t since until image left. ⊎_elim
          (λ low. inl (left ∙ ap (λ (l : List (List ℕ)). take t l) is
          ∙ take-append-le t old.payloads (payload ∷ []) (omega (arith, low, size))
          ∙ take_all t old.payloads since ∙ sym told))
          (λ high. inr (left ∙ at_end t high))
          (cases_lt t (length new.payloads)),
      (omega arith, λ t since until image left. inl (left ∙ at_end t since)),
    )
