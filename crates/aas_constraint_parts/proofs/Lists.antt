-- Lists, item by item.
use Rattle.std.proofs.Common.{◌≡◌, List, [], ◌∷◌, ◌++◌, filter_map, flat_map, Option, Some, None, ◌&&◌, Bool, refl, ap, ◌∙◌}
use Rattle.std.specs.List.{cons_option, list_all}
use Rattle.std.proofs.lemmas.Grind.{flat_map-append}
use Rattle.std.proofs.lemmas.List.Folds.{list_all-append}

cons_before : {Y : Type 0} (o : Option Y) (ys : List Y) (y : Y) → cons_option o (ys ++ y ∷ []) ≡ cons_option o ys ++ y ∷ []
cons_before None ys y = refl
cons_before (Some z) ys y = refl

pub filtered_some : {X Y : Type 0} (f : X → Option Y) (xs : List X) (x : X) (y : Y) → f x ≡ Some y → filter_map f (xs ++ x ∷ []) ≡ filter_map f xs ++ y ∷ []
filtered_some f [] x y e = ap (λ o. cons_option o []) e
filtered_some f (w ∷ xs) x y e = ap (cons_option (f w)) (filtered_some f xs x y e) ∙ cons_before (f w) (filter_map f xs) y

pub filtered_none : {X Y : Type 0} (f : X → Option Y) (xs : List X) (x : X) → f x ≡ None → filter_map f (xs ++ x ∷ []) ≡ filter_map f xs
filtered_none f [] x e = ap (λ o. cons_option o []) e
filtered_none f (w ∷ xs) x e = ap (cons_option (f w)) (filtered_none f xs x e)

-- ---- tests of all items

pub all_append : {X : Type 0} (test : X → Bool) (xs ys : List X) → list_all test (xs ++ ys) ≡ (list_all test xs && list_all test ys)
all_append test xs ys = list_all-append test xs ys

pub all_flat_append : {X Y : Type 0} (test : Y → Bool) (f : X → List Y) (xs ys : List X) → list_all test (flat_map f (xs ++ ys)) ≡ (list_all test (flat_map f xs) && list_all test (flat_map f ys))
all_flat_append test f xs ys = ap (list_all test) (flat_map-append f xs ys) ∙ all_append test (flat_map f xs) (flat_map f ys)
