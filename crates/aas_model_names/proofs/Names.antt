-- What is found by its name.
use Rattle.std.proofs.Common.{◌≡◌, ℕ, List, [], ◌∷◌, Bool, true, false, cond, Option, Some, bytes_eq, ◌↔◌, sym, ap, ◌∙◌, refl}
use Rattle.std.specs.List.{find}
use Rattle.std.proofs.lemmas.Slice.Eq.{bytes_eq-Decides}
use Rattle.aas_model_names.specs.Names.{FindsEach}

passes_first : {V : Type 0} (b : Bool) (x v : V) (p : V → Bool) (rest : Option V) → p x ≡ b → cond b (Some x) rest ≡ Some v → (rest ≡ Some v → p v ≡ true) → p v ≡ true
passes_first true x v p rest e is h = let same : x ≡ v = cc in ap p (sym same) ∙ e
passes_first false x v p rest e is h = h is

-- what is found passes the test
found_passes : {V : Type 0} (p : V → Bool) (xs : List V) (v : V) → find p xs ≡ Some v → p v ≡ true
found_passes p [] v is = cc
found_passes p (x ∷ xs) v is = passes_first (p x) x v p (find p xs) refl is (found_passes p xs v)

-- what is found by a name is the one value that has the name
pub found_exactly : {V : Type 0} (f : V → List ℕ) (all : List V) → FindsEach f all → (s : List ℕ) (r : Option V)
    → r ≡ find (λ u. bytes_eq (f u) s) all → (v : V) → (r ≡ Some v) ↔ (s ≡ f v)
found_exactly f all law s r is v = (
  λ e. sym ((bytes_eq-Decides (f v) s).0 (found_passes (λ u. bytes_eq (f u) s) all v (sym is ∙ e))),
  λ e. is ∙ ap (λ x. find (λ u. bytes_eq (f u) x) all) e ∙ law v,
)
