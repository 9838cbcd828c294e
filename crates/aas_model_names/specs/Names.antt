-- Names of the values of an enumeration.
use Rattle.std.specs.Prelude.{◌≡◌, ℕ, List, map, Some, bytes_eq}
use Rattle.std.specs.List.{find}

-- the names of these values, in their order
abbrev pub names_of : {V : Type 0} → (V → List ℕ) → List V → List (List ℕ)
names_of name_of values = map name_of values

-- each value is the first of all that has its name
abbrev pub FindsEach : {V : Type 0} → (V → List ℕ) → List V → Type 0
FindsEach {V} name_of all = (v : V) → find (λ u. bytes_eq (name_of u) (name_of v)) all ≡ Some v
