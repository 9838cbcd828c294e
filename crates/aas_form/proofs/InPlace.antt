-- Children that are changed in their places, one after another.
use Rattle.std.proofs.Common.{◌≡◌, ℕ, ◌+◌, ◌<◌, ◌≤◌, List, [], ◌∷◌, ◌++◌, length, take, drop, set, get_or, map, refl, sym, ap, ap₂, ◌∙◌, length-drop, arith}
use Rattle.std.proofs.Math.Seq.{take-suc-set}
use Rattle.std.proofs.Math.Numerals.{add-one}
use Rattle.std.proofs.lemmas.List.{drop-set-lt, nil_from_length, append-nil, take_all}
use Rattle.aas_path.proofs.PatchWalk.{filled_all}
use Rattle.aas_lemmas.proofs.Lists.{append_one, drop_at}
use Rattle.aas_model.specs.declared.element.Element.{Element}
use Rattle.aas_model_text.specs.Many.{filled}

-- a loop over children, of which those before place i are changed
abbrev pub Reached : (Element → Element) → List Element → List Element → ℕ → Type 0
Reached f start ks i = map f start ≡ take i ks ++ map f (drop i ks)

pub set_out : (f : Element → Element) (ks : List Element) → Reached f ks ks 0
set_out f ks = refl

pub turn : (f : Element → Element) (start ks : List Element) (i : ℕ) (x y : Element) → i < length ks → x ≡ get_or ks i x → y ≡ f x
    → Reached f start ks i → Reached f start (set ks i y) (i + 1)
turn f start ks i x y lt at is so_far =
    let rest : drop (i + 1) ks ≡ drop (i + 1) (set ks i y) = sym (drop-set-lt (i + 1) ks i y (omega arith)) in
    let done : take i ks ++ y ∷ [] ≡ take (i + 1) (set ks i y) = sym (ap (λ n. take n (set ks i y)) (add-one i) ∙ take-suc-set ks i y lt) in
    so_far ∙ ap (λ l. take i ks ++ map f l) (drop_at ks i x lt at) ∙ ap (λ z. take i ks ++ z ∷ map f (drop (i + 1) ks)) (sym is)
    ∙ sym (append_one (take i ks) y (map f (drop (i + 1) ks))) ∙ ap₂ (λ a b. a ++ map f b) done rest

pub ended : (f : Element → Element) (start ks : List Element) (i : ℕ) → length ks ≤ i → Reached f start ks i → ks ≡ map f start
ended f start ks i le so_far =
    let none_left : drop i ks ≡ [] = nil_from_length (drop i ks) (omega (arith, length-drop i ks)) in
    sym (so_far ∙ ap (λ l. take i ks ++ map f l) none_left ∙ append-nil (take i ks) ∙ take_all i ks le)

-- what a list of children ends as, whose slice was changed so
pub filled_map : (f : Element → Element) (xs ws lent : List Element) → lent ≡ xs → length ws ≡ length lent → ws ≡ map f lent → filled xs ws ≡ map f xs
filled_map f xs ws lent same long is = filled_all xs ws (long ∙ ap length same) ∙ is ∙ ap (map f) same
