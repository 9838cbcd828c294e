-- Submodels that are laid out as tables, from the last to the first.
use Rattle.std.proofs.Common.{◌≡◌, ℕ, ◌+◌, List, [], ◌∷◌, ◌++◌, length, map, slice_get, reverse, Some, sym, ap, ◌∙◌, subst, append_assoc}
use Rattle.std.specs.List.{All, remove}
use Rattle.std.proofs.lemmas.List.{length_push, reverse-append}
use Rattle.std.proofs.lemmas.Option.{get_or_from_slice_get, slice_get_within}
use Rattle.aas_lemmas.proofs.Lists.{get_front}
use Rattle.aas_model.specs.declared.documents.Submodel.{Submodel}
use Rattle.aas_store.specs.Storable.{IsStorable}
use Rattle.aas_store.proofs.Merges.{without_last}

-- one that is left can be stored as all can
pub storable_left : (all left made : List Submodel) (n : ℕ) (s : Submodel) → All IsStorable all → left ++ made ≡ all → slice_get left n ≡ Some s → IsStorable s
storable_left all left made n s storable is at =
    let there : slice_get all n ≡ Some s = ap (λ (xs : List Submodel). slice_get xs n) (sym is) ∙ get_front left made n s at in
    subst IsStorable (get_or_from_slice_get all n s s there) (storable n s (slice_get_within all n s there))

-- the last that is left goes to those that are made
pub laid_one : {T : Type 0} (kept : T → Submodel) (all left rest : List Submodel) (made more : List T) (n : ℕ) (s : Submodel) (t : T) → left ++ map kept (reverse made) ≡ all → n + 1 ≡ length left
    → slice_get left n ≡ Some s → rest ≡ remove left n → kept t ≡ s → more ≡ made ++ t ∷ [] → rest ++ map kept (reverse more) ≡ all
laid_one {T = T} kept all left rest made more n s t is last at removed same pushed =
    let laid : List Submodel = map kept (reverse made) in
    ap (λ (ts : List T). rest ++ map kept (reverse ts)) pushed
    ∙ ap (λ (ts : List T). rest ++ map kept ts) (reverse-append made (t ∷ []))
    ∙ ap (λ (s : Submodel). rest ++ s ∷ laid) same
    ∙ sym (append_assoc rest (s ∷ []) laid)
    ∙ ap (λ xs. (xs ++ s ∷ []) ++ laid) removed
    ∙ ap (λ xs. xs ++ laid) (sym (without_last left n s last at))
    ∙ is

-- there is one less left
pub one_less : (left rest : List Submodel) (n : ℕ) (s : Submodel) → n + 1 ≡ length left → slice_get left n ≡ Some s → rest ≡ remove left n → length left ≡ length rest + 1
one_less left rest n s last at removed = ap length (without_last left n s last at ∙ ap (λ xs. xs ++ s ∷ []) (sym removed)) ∙ length_push rest s
