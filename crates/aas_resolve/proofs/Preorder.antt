-- Elements in preorder.
use Rattle.std.proofs.Common.{◌≡◌, ◌⊎◌, inl, inr, ℕ, zero, suc, ◌<◌, ◌≤◌, List, [], ◌∷◌, ◌++◌, length, map, slice_get}
use Rattle.std.proofs.Common.{Some, sym, ap, ◌∙◌, subst, arith, length-append}
use Rattle.aas_model.specs.declared.documents.Submodel.{Submodel}
use Rattle.aas_model.specs.declared.element.Element.{Element, roll-Element, out-roll-Element, ind-Element}
use Rattle.aas_path_trees.proofs.Patches.{kinds_out}
use Rattle.aas_path_trees.specs.Children.{kids_of}
use Rattle.aas_path_trees.specs.Patched.{kinds, kinds_of_all, element_count}
use Rattle.aas_store.specs.Spots.{elements, elements_of_all}
use Rattle.aas_store.proofs.Listed.{elements_out}

abbrev Known : (Element → Type 0) → Type 0
Known P = (e : Element) × P e

-- ---- what stands in a list of two

get_either : {X : Type 0} (xs ys : List X) (i : ℕ) (x : X)
    → slice_get (xs ++ ys) i ≡ Some x → (slice_get xs i ≡ Some x) ⊎ ((n : ℕ) × (slice_get ys n ≡ Some x))
get_either [] ys i x e = inr (i, e)
get_either (y ∷ xs) ys zero x e = inl e
get_either (y ∷ xs) ys (suc i) x e = get_either xs ys i x e

-- ---- an element has fewer children than there are elements

FewIn : List Element → ℕ → Type 0
FewIn es n = (i : ℕ) (e : Element) → slice_get es i ≡ Some e → length (kids_of e) < n

Few : Element → Type 0
Few k = FewIn (elements k) (length (kinds k))

FewAmong : List Element → Type 0
FewAmong ks = FewIn (elements_of_all ks) (length (kinds_of_all ks))

few_none : FewAmong []
unfolding FewAmong FewIn
few_none i e at = absurd (cc)

few_cons : (k : Element) (ks : List Element) → Few k → FewAmong ks → FewAmong (k ∷ ks)
unfolding Few FewAmong FewIn
few_cons k ks few rest i e at = by (get_either (elements k) (elements_of_all ks) i e at)
  where
    by : (slice_get (elements k) i ≡ Some e) ⊎ ((n : ℕ) × (slice_get (elements_of_all ks) n ≡ Some e))
        → length (kids_of e) < length (kinds_of_all (k ∷ ks))
    by (inl here) = let less = few i e here in omega (arith, less, length-append (kinds k) (kinds_of_all ks))
    by (inr there) = let less = rest there.0 e there.1 in omega (arith, less, length-append (kinds k) (kinds_of_all ks))

-- as many children as elements, or fewer
pub few_first : (ks : List Element) → length ks ≤ length (kinds_of_all ks)
few_first [] = omega arith
few_first (k ∷ ks) =
    let rest = few_first ks in
    let own : length (kinds k) ≡ suc (length (kinds_of_all (kids_of k))) = ap length (kinds_out k) in
    omega (arith, rest, own, length-append (kinds k) (kinds_of_all ks))

few_level : (e : Element) → FewAmong (kids_of e) → Few e
unfolding Few FewAmong FewIn
few_level e rest i f at = by i (ap (λ es. slice_get es i) (sym (elements_out e)) ∙ at)
  where
    own : length (kinds e) ≡ suc (length (kinds_of_all (kids_of e)))
    own = ap length (kinds_out e)

    by : (i : ℕ) → slice_get (e ∷ elements_of_all (kids_of e)) i ≡ Some f → length (kids_of f) < length (kinds e)
    by zero is =
        let same : e ≡ f = cc in
        let few = few_first (kids_of e) in
        let kids : length (kids_of f) ≡ length (kids_of e) = ap (λ e. length (kids_of e)) (sym same) in
        omega (arith, few, kids, own)
    by (suc i) is = let less = rest i f is in omega (arith, less, own)

few_known : (ks : List (Known Few)) → FewAmong (map (λ k. k.0) ks)
few_known [] = few_none
few_known (k ∷ ks) = few_cons k.0 (map (λ k. k.0) ks) k.1 (few_known ks)

few : (e : Element) → Few e
few = ind-Element Few (λ x y is. few_level (roll-Element x)
    (subst FewAmong (sym (ap (λ f. f.kids) (out-roll-Element x ∙ sym is))) (few_known y.kids)))

few_among : (ks : List Element) → FewAmong ks
few_among [] = few_none
few_among (k ∷ ks) = few_cons k ks (few k) (few_among ks)

pub few_kids : (d : Submodel) (i : ℕ) (e : Element)
    → slice_get (elements_of_all d.kids) i ≡ Some e → length (kids_of e) < element_count d
unfolding FewAmong FewIn
few_kids d i e at = few_among d.kids i e at
