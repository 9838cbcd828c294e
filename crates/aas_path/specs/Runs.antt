-- The bytes of a class at the front of a text.
use Rattle.std.specs.Prelude.{◌≡◌, ℕ, ◌≤◌, Bool, true, false, List, [], ◌∷◌, length, take, drop}
use Rattle.aas_lexical_forms.specs.Form.{any}

abbrev pub BeginsWith : (ℕ → Bool) → List ℕ → Type 0
BeginsWith class [] = ⊥
BeginsWith class (b ∷ text) = class b ≡ true

abbrev pub Stops : (ℕ → Bool) → List ℕ → Type 0
Stops class [] = Unit {0}
Stops class (b ∷ text) = class b ≡ false

-- n of them, and not more
pub record IsRun (class : ℕ → Bool) (text : List ℕ) (n : ℕ) : Type 0 where
  pub within : n ≤ length text
  pub front : any class (take n text)
  pub behind : Stops class (drop n text)
