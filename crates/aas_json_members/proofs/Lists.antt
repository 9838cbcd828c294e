-- Lists before items.
use Rattle.std.proofs.Common.{◌≡◌, List, [], ◌∷◌, ◌++◌, ◌==◌, map, not, length, is_some, refl, ap, arith}
use Rattle.serde_json.specs.Data.{Data, Items, no_items, item}
use Rattle.serde_json.specs.View.{items_of}
use Rattle.aas_json_table.specs.Spelled.{onto, list_of}

-- one value more, at the end of the list
pub one_more : {A : Type 0} (f : A → Data) (xs : List A) (x : A) (rest : Items) → onto (map f (xs ++ x ∷ [])) rest ≡ onto (map f xs) (item (f x) rest)
one_more f [] x rest = refl
one_more f (y ∷ xs) x rest = ap (item (f y)) (one_more f xs x rest)

-- a list is spelled unless it is empty
pub is_some_list : {A : Type 0} (f : A → Data) (xs : List A) → is_some (list_of f xs) ≡ not (length xs == 0)
is_some_list f [] = refl
is_some_list f (x ∷ xs) = grind arith

-- values before no items
pub onto_none : (ds : List Data) → onto ds no_items ≡ items_of ds
onto_none [] = refl
onto_none (d ∷ ds) = ap (item d) (onto_none ds)
