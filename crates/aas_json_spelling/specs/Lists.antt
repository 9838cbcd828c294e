-- Words about lists that wholeness is said with.
use Rattle.std.specs.Prelude.{ℕ, max, List, [], ◌∷◌, Bool, true, false}
use Rattle.std.specs.List.{AllByRecursion, list_all}

-- P holds of each of the list
abbrev pub Each : {A : Type 0} → (A → Type 0) → List A → Type 0
Each = AllByRecursion

abbrev pub each_true : List Bool → Bool
each_true = list_all (λ b. b)

-- the greatest of some numbers
abbrev pub most : List ℕ → ℕ
most [] = 0
most (n ∷ ns) = max n (most ns)

-- the list is not empty
abbrev pub is_any : {A : Type 0} → List A → Bool
is_any [] = false
is_any (x ∷ xs) = true
