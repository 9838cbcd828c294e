-- Lists, item by item.
use Rattle.std.proofs.Common.{◌≡◌, ℕ, ◌+◌, ◌<◌, List, [], ◌∷◌, ◌++◌, length, take, get_or, map, Option, Some, None, option_map, refl, sym, ap, ◌∙◌}
use Rattle.std.proofs.lemmas.List.{map-append, take_more}
use Rattle.aas_json_table.specs.Rows.{first_of}
use Rattle.aas_reference.specs.Rules.{first}
use Rattle.aas_constraint_rules.specs.Rules.{first_some}

pub first-append : {X : Type 0} (xs ys : List X) → first (xs ++ ys) ≡ first_of (first xs) (first ys)
first-append [] ys = refl
first-append (x ∷ xs) ys = refl

pub first-map : {X Y : Type 0} (f : X → Y) (xs : List X) → first (map f xs) ≡ option_map f (first xs)
first-map f [] = refl
first-map f (x ∷ xs) = refl

-- what was taken ends with the item at a place
pub taken_map : {X Y : Type 0} (f : X → Y) (xs : List X) (i : ℕ) (x : X) → i < length xs → x ≡ get_or xs i x → map f (take (i + 1) xs) ≡ map f (take i xs) ++ f x ∷ []
taken_map f xs i x lt at = ap (map f) (take_more xs i x lt ∙ ap (λ y. take i xs ++ y ∷ []) (sym at)) ∙ map-append f (take i xs) (x ∷ [])

pub first_some-last : {X : Type 0} (xs : List (Option X)) (x : Option X) → first_some (xs ++ x ∷ []) ≡ first_of (first_some xs) x
first_some-last [] None = refl
first_some-last [] (Some x) = refl
first_some-last (None ∷ xs) x = first_some-last xs x
first_some-last (Some y ∷ xs) x = refl
