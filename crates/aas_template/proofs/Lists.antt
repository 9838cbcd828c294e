-- Lists, item by item.
use Rattle.std.proofs.Common.{◌≡◌, ◌≢◌, ℕ, zero, suc, ◌+◌, ◌<◌, Bool, true, false, List, [], ◌∷◌, ◌++◌, length, take, filter, flat_map, get_or, map, slice_get, Some, refl, sym, ap, ap₂, ◌∙◌, arith}
use Rattle.std.specs.List.{slice_set}
use Rattle.std.proofs.lemmas.Bool.{cond-true, cond-false}
use Rattle.std.proofs.lemmas.List.{append-nil}
use Rattle.std.proofs.lemmas.List.Elements.{filter_more}

-- what passes, and one more item
pub filter_with : {X : Type 0} (p : X → Bool) (xs : List X) (i : ℕ) (x : X) → i < length xs → x ≡ get_or xs i x → p x ≡ true → filter p (take (i + 1) xs) ≡ filter p (take i xs) ++ x ∷ []
filter_with p xs i x lt at so = filter_more p xs i x lt ∙ ap (λ l. filter p (take i xs) ++ l) (cond-true (p (get_or xs i x)) _ _ (ap p (sym at) ∙ so) ∙ ap (λ y. y ∷ []) (sym at))

pub filter_without : {X : Type 0} (p : X → Bool) (xs : List X) (i : ℕ) (x : X) → i < length xs → x ≡ get_or xs i x → p x ≡ false → filter p (take (i + 1) xs) ≡ filter p (take i xs)
filter_without p xs i x lt at not_so = filter_more p xs i x lt ∙ ap (λ l. filter p (take i xs) ++ l) (cond-false (p (get_or xs i x)) _ _ (ap p (sym at) ∙ not_so)) ∙ append-nil (filter p (take i xs))

-- one item alone passes
pub filter_none : {X : Type 0} (p : X → Bool) (xs : List X) → ((i : ℕ) (x : X) → slice_get xs i ≡ Some x → p x ≡ false) → filter p xs ≡ []
filter_none p [] none = refl
filter_none p (x ∷ xs) none = cond-false (p x) _ _ (none zero x refl) ∙ filter_none p xs (λ i y at. none (suc i) y at)

pub filter_one : {X : Type 0} (p : X → Bool) (xs : List X) (j : ℕ) (x : X) → slice_get xs j ≡ Some x → p x ≡ true
    → ((i : ℕ) (y : X) → slice_get xs i ≡ Some y → i ≢ j → p y ≡ false) → filter p xs ≡ x ∷ []
filter_one p [] j x at so others = absurd (cc)
filter_one p (z ∷ xs) zero x at so others =
    let same : z ≡ x = cc in
    cond-true (p z) _ _ (ap p same ∙ so) ∙ ap₂ (λ y ys. y ∷ ys) same (filter_none p xs (λ i y is. let ne : suc i ≢ zero = omega arith in others (suc i) y is ne))
filter_one p (z ∷ xs) (suc j) x at so others =
    let ne : zero ≢ suc j = omega arith in
    cond-false (p z) _ _ (others zero z refl ne)
    ∙ filter_one p xs j x at so (λ i y is apart. let further : suc i ≢ suc j = (λ e. apart (omega (arith, e))) in others (suc i) y is further)

-- one item is changed, or none is
pub same_maps : {X Y : Type 0} (f g : X → Y) (xs : List X) → ((i : ℕ) (x : X) → slice_get xs i ≡ Some x → g x ≡ f x) → map g xs ≡ map f xs
same_maps f g [] same = refl
same_maps f g (x ∷ xs) same = ap₂ (λ y ys. y ∷ ys) (same zero x refl) (same_maps f g xs (λ i y at. same (suc i) y at))

pub maps_but_one : {X Y : Type 0} (f g : X → Y) (xs : List X) (j : ℕ) (x : X) → slice_get xs j ≡ Some x
    → ((i : ℕ) (y : X) → slice_get xs i ≡ Some y → i ≢ j → g y ≡ f y) → map g xs ≡ slice_set (map f xs) j (g x)
maps_but_one f g [] j x at others = absurd (cc)
maps_but_one f g (z ∷ xs) zero x at others =
    let same : z ≡ x = cc in
    ap₂ (λ y ys. y ∷ ys) (ap g same) (same_maps f g xs (λ i y is. let ne : suc i ≢ zero = omega arith in others (suc i) y is ne))
maps_but_one f g (z ∷ xs) (suc j) x at others =
    let ne : zero ≢ suc j = omega arith in
    ap₂ (λ y ys. y ∷ ys) (others zero z refl ne)
    (maps_but_one f g xs j x at (λ i y is apart. let further : suc i ≢ suc j = (λ e. apart (omega (arith, e))) in others (suc i) y is further))

pub flat_map_nothing : {X Y : Type 0} (f : X → List Y) (xs : List X) → ((i : ℕ) (x : X) → slice_get xs i ≡ Some x → f x ≡ []) → flat_map f xs ≡ []
flat_map_nothing f [] none = refl
flat_map_nothing f (x ∷ xs) none = ap₂ (λ a b. a ++ b) (none zero x refl) (flat_map_nothing f xs (λ i y at. none (suc i) y at))
