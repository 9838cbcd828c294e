-- One path after another, and what is written where they end.
use Rattle.std.proofs.Common.{◌≡◌, ℕ, Bool, List, [], ◌∷◌, ◌++◌, Option, Some, None, slice_get, slice_set, option_and_then, option_map, refl, sym, ap, ◌∙◌}
use Rattle.std.proofs.lemmas.Option.{get_or_from_slice_get}
use Rattle.std.proofs.lemmas.List.{set-get_or}
use Rattle.aas_model.specs.declared.documents.Submodel.{Submodel}
use Rattle.aas_model.specs.declared.element.Element.{Element, roll-out-Element}
use Rattle.aas_model.specs.declared.path.PathStep.{PathStep}
use Rattle.aas_path_trees.specs.Children.{kids_of, is_list, with_kids}
use Rattle.aas_path_trees.specs.ElementAt.{place_of, child_by, element_below, element_among, element_at}
use Rattle.aas_path_trees.specs.WithElement.{with_child, with_below, with_among, with_element}

abbrev Child : Type 0
Child = ℕ × Element

-- ---- what a path leads to that goes on where another ends

found-append : (p q : List PathStep) → ((e : Element) → element_below (p ++ q) e ≡ option_and_then (element_below q) (element_below p e)) → (o : Option Child)
    → option_and_then (λ c. element_below (p ++ q) c.1) o ≡ option_and_then (element_below q) (option_and_then (λ c. element_below p c.1) o)
found-append p q h None = refl
found-append p q h (Some c) = h c.1

pub element_below-append : (p q : List PathStep) (e : Element) → element_below (p ++ q) e ≡ option_and_then (element_below q) (element_below p e)
unfolding element_below
element_below-append [] q e = refl
element_below-append (s ∷ p) q e = found-append p q (element_below-append p q) (child_by (is_list e) s (kids_of e))

pub element_among-append : (l : Bool) (s : PathStep) (p q : List PathStep) (ks : List Element) → element_among l s (p ++ q) ks ≡ option_and_then (element_below q) (element_among l s p ks)
element_among-append l s p q ks = found-append p q (element_below-append p q) (child_by l s ks)

pub element_below-cons : (s : PathStep) (p : List PathStep) (e : Element) → element_below (s ∷ p) e ≡ element_among (is_list e) s p (kids_of e)
unfolding element_below
element_below-cons s p e = refl

-- ---- what is written there

with_child-append : (p q : List PathStep) (k w : Element) (ks : List Element)
    → ((e : Element) → element_below p e ≡ Some k → with_below (p ++ q) e w ≡ with_below p e (with_below q k w)) → (o : Option Child)
    → option_and_then (λ c. element_below p c.1) o ≡ Some k
    → with_child (λ e. with_below (p ++ q) e w) ks o ≡ with_child (λ e. with_below p e (with_below q k w)) ks o
with_child-append p q k w ks h None is = refl
with_child-append p q k w ks h (Some c) is = ap (slice_set ks c.0) (h c.1 is)

pub with_below-append : (p q : List PathStep) (k w e : Element) → element_below p e ≡ Some k → with_below (p ++ q) e w ≡ with_below p e (with_below q k w)
unfolding element_below with_below
with_below-append [] q k w e is = let same : e ≡ k = cc in ap (λ x. with_below q x w) same
with_below-append (s ∷ p) q k w e is =
    ap (with_kids e) (with_child-append p q k w (kids_of e) (with_below-append p q k w) (child_by (is_list e) s (kids_of e)) is)

pub with_among-append : (l : Bool) (s : PathStep) (p q : List PathStep) (k w : Element) (ks : List Element) → element_among l s p ks ≡ Some k
    → with_among l s (p ++ q) ks w ≡ with_among l s p ks (with_below q k w)
with_among-append l s p q k w ks is = with_child-append p q k w ks (with_below-append p q k w) (child_by l s ks) is

pub with_below-cons : (s : PathStep) (p : List PathStep) (e w : Element) → with_below (s ∷ p) e w ≡ with_kids e (with_among (is_list e) s p (kids_of e) w)
unfolding with_below
with_below-cons s p e w = refl

-- ---- what is there, written back, changes nothing

read_child : (i : ℕ) (o : Option Element) (c : Child) → option_map (λ k. (i, k)) o ≡ Some c → o ≡ Some c.1
read_child i None c is = cc
read_child i (Some k) c is = let same : (i, k) ≡ c = cc in ap (λ x. Some x.1) same

read_place : (i : ℕ) (o : Option Element) (c : Child) → option_map (λ k. (i, k)) o ≡ Some c → i ≡ c.0
read_place i None c is = cc
read_place i (Some k) c is = let same : (i, k) ≡ c = cc in ap (λ x. x.0) same

read_at : (o : Option ℕ) (ks : List Element) (c : Child) → option_and_then (λ i. option_map (λ k. (i, k)) (slice_get ks i)) o ≡ Some c → (o ≡ Some c.0) × (slice_get ks c.0 ≡ Some c.1)
read_at None ks c is = cc
read_at (Some i) ks c is =
    let here = read_place i (slice_get ks i) c is in
    (ap (λ n. Some n) here, ap (slice_get ks) (sym here) ∙ read_child i (slice_get ks i) c is)

-- the child to which a step leads stands in its place
pub child_by-there : (l : Bool) (s : PathStep) (ks : List Element) (c : Child) → child_by l s ks ≡ Some c → (place_of l s ks ≡ Some c.0) × (slice_get ks c.0 ≡ Some c.1)
unfolding child_by
child_by-there l s ks c is = read_at (place_of l s ks) ks c is

with_child-same : (p : List PathStep) (k : Element) (ks : List Element) → ((e : Element) → element_below p e ≡ Some k → with_below p e k ≡ e) → (o : Option Child)
    → ((c : Child) → o ≡ Some c → slice_get ks c.0 ≡ Some c.1) → option_and_then (λ c. element_below p c.1) o ≡ Some k → with_child (λ e. with_below p e k) ks o ≡ ks
with_child-same p k ks h None there is = refl
with_child-same p k ks h (Some c) there is =
    ap (slice_set ks c.0) (h c.1 is ∙ sym (get_or_from_slice_get ks c.0 c.1 c.1 (there c refl))) ∙ set-get_or ks c.0 c.1

stands : (l : Bool) (s : PathStep) (ks : List Element) (c : Child) → child_by l s ks ≡ Some c → slice_get ks c.0 ≡ Some c.1
stands l s ks c is = (child_by-there l s ks c is).1

pub with_below-same : (p : List PathStep) (k e : Element) → element_below p e ≡ Some k → with_below p e k ≡ e
unfolding element_below with_below
with_below-same [] k e is = cc
with_below-same (s ∷ p) k e is =
    ap (with_kids e) (with_child-same p k (kids_of e) (with_below-same p k) (child_by (is_list e) s (kids_of e)) (stands (is_list e) s (kids_of e)) is) ∙ roll-out-Element e

pub with_among-same : (l : Bool) (s : PathStep) (p : List PathStep) (k : Element) (ks : List Element) → element_among l s p ks ≡ Some k → with_among l s p ks k ≡ ks
with_among-same l s p k ks is = with_child-same p k ks (with_below-same p k) (child_by l s ks) (stands l s ks) is

pub with_element-same : (d : Submodel) (p : List PathStep) (e : Element) → element_at d p ≡ Some e → with_element d p e ≡ d
with_element-same d [] e is = refl
with_element-same d (s ∷ p) e is = ap (λ ks. record d { kids = ks }) (with_among-same _ s p e d.kids is)
