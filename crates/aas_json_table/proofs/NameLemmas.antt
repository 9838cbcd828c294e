-- Whether a text is one of the names of an enumeration.
use Rattle.std.proofs.Common.{◌≡◌, ◌↔◌, ℕ, List, [], ◌∷◌, Bool, true, false, cond, map, Option, Some, None, is_some, bytes_eq, sym, ap, ◌∙◌, refl}
use Rattle.std.specs.List.{find}
use Rattle.std.proofs.lemmas.Bool.{false_from_ne_true}
use Rattle.std.proofs.lemmas.Slice.Eq.{bytes_eq-Decides}
use Rattle.aas_lemmas.proofs.Truth.{bytes_eq-turned}
use Rattle.aas_json_table.specs.Names.{has}
use Rattle.aas_json_table.specs.Rows as rows

bytes_differ : (s t : List ℕ) → (s ≡ t → ⊥) → bytes_eq s t ≡ false
bytes_differ s t differ = false_from_ne_true (bytes_eq s t) (λ e. differ ((bytes_eq-Decides s t).0 e))

has_later : (b x : Bool) → x ≡ true → cond b true x ≡ true
has_later true x e = refl
has_later false x e = e

-- a text that is no value's name
pub has_none : {V : Type 0} (f : V → List ℕ) (s : List ℕ) → ((v : V) → s ≡ f v → ⊥) → (vs : List V) → has (map f vs) s ≡ false
has_none f s none [] = refl
has_none f s none (v ∷ vs) = ap (λ b. cond b true (has (map f vs) s)) (bytes_differ s (f v) (none v)) ∙ has_none f s none vs

has_by_cases : {V : Type 0} (f : V → List ℕ) (s : List ℕ) (u v : V) (vs : List V) (b : Bool) → bytes_eq (f u) s ≡ b → (find (λ w. bytes_eq (f w) s) vs ≡ Some v → has (map f vs) s ≡ true)
    → cond b (Some u) (find (λ w. bytes_eq (f w) s) vs) ≡ Some v → has (map f (u ∷ vs)) s ≡ true
has_by_cases f s u v vs true is later e = ap (λ b. cond b true (has (map f vs) s)) (bytes_eq-turned (f u) s is)
has_by_cases f s u v vs false is later e = has_later (bytes_eq s (f u)) (has (map f vs) s) (later e)

-- a text by which a value is found
pub has_found : {V : Type 0} (f : V → List ℕ) (s : List ℕ) (v : V) (vs : List V) → find (λ w. bytes_eq (f w) s) vs ≡ Some v → has (map f vs) s ≡ true
has_found f s v [] e = cc
has_found f s v (u ∷ vs) e = has_by_cases f s u v vs (bytes_eq (f u) s) refl (has_found f s v vs) e

-- what is found by a text, where each value is found by its name, tells whether the text is a name
pub has-is_some : {V : Type 0} (f : V → List ℕ) (all : List V) → ((v : V) → find (λ u. bytes_eq (f u) (f v)) all ≡ Some v) → (s : List ℕ) (r : Option V)
    → ((v : V) → (r ≡ Some v) ↔ (s ≡ f v)) → is_some r ≡ has (map f all) s
has-is_some f all law s None only = sym (has_none f s (λ v e. let h = (only v).1 e in cc) all)
has-is_some f all law s (Some v) only = let e = (only v).0 refl in sym (has_found f s v all (ap (λ t. find (λ u. bytes_eq (f u) t) all) e ∙ law v))

nothing_by_cases : {A : Type 0} (b later : Bool) (x : A) (rest : Option A) → cond b true later ≡ false → (later ≡ false → rest ≡ None) → cond b (Some x) rest ≡ None
nothing_by_cases true later x rest e none = cc
nothing_by_cases false later x rest e none = none e

nothing_found : {A : Type 0} (s : List ℕ) (ps : List (List ℕ × A)) → has (map (λ p. p.0) ps) s ≡ false → rows.find s ps ≡ None
nothing_found s [] e = refl
nothing_found s (p ∷ ps) e = nothing_by_cases (bytes_eq s p.0) (has (map (λ q. q.0) ps) s) p.1 (rows.find s ps) e (nothing_found s ps)

-- what has the names of some values isn't found by a text that is no value's name
pub find_none : {A V : Type 0} (f : V → List ℕ) (s : List ℕ) (vs : List V) (ps : List (List ℕ × A)) → map (λ p. p.0) ps ≡ map f vs → ((v : V) → s ≡ f v → ⊥) → rows.find s ps ≡ None
find_none f s vs ps same none = nothing_found s ps (ap (λ ns. has ns s) same ∙ has_none f s none vs)
