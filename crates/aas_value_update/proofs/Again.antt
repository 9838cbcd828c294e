-- What is put in the place to which a path leads: the path leads to it, and what is put there next stands in its stead.
use Rattle.std.proofs.Common.{◌≡◌, ℕ, ◌<◌, Bool, true, false, cond, if◌then◌else◌, nat_lt, List, [], ◌∷◌, Option}
use Rattle.std.proofs.Common.{Some, None}
use Rattle.std.proofs.Common.{option_and_then, option_map, slice_get, slice_set, slice_index_or, refl, sym, ap, ap₂}
use Rattle.std.proofs.Common.{◌∙◌, subst}
use Rattle.std.proofs.lemmas.List.{length-set, set-set, get_or-set_same}
use Rattle.std.proofs.lemmas.List.Folds.{position_or_len-set}
use Rattle.std.proofs.lemmas.Option.{get_or_from_slice_get, slice_get_within, slice_get-get_or}
use Rattle.aas_model.specs.declared.documents.Submodel.{Submodel}
use Rattle.aas_model.specs.declared.element.Element.{Element, roll-Element, out-Element, out-roll-Element}
use Rattle.aas_model.specs.declared.element.Element.TheOpen.{Element-F}
use Rattle.aas_model.specs.declared.path.PathStep.{PathStep}
use Rattle.aas_model.specs.declared.path.PathStep.TheVariants.{Name, Place}
use Rattle.aas_path_trees.specs.Children.{kids_of, id_short_of, is_list, is_list_payload, with_kids}
use Rattle.aas_path_trees.specs.ElementAt.{is_text, place_of, child_by, element_below, element_among, element_at}
use Rattle.aas_path_trees.specs.WithElement.{with_child, with_below, with_among, with_element}
use Rattle.aas_path_trees.proofs.Paths.{child_by-there, element_below-cons, with_below-cons}

abbrev Child : Type 0
Child = ℕ × Element

-- ---- one step

place_stays : (l : Bool) (s : PathStep) (ks : List Element) (c : Child) (w : Element) → slice_get ks c.0 ≡ Some c.1
    → id_short_of w ≡ id_short_of c.1
    → place_of l s (slice_set ks c.0 w) ≡ place_of l s ks
unfolding place_of
place_stays true (Name n) ks c w at name = refl
place_stays true (Place i) ks c w at name = ap (λ m. if nat_lt i m then Some i else None) (length-set ks c.0 w)
place_stays false (Name n) ks c w at name =
    let test : Element → Bool = λ k. is_text n (id_short_of k) in
    let same : test w ≡ test (slice_index_or ks c.0 c.1) =
    ap (is_text n) name ∙ ap test (sym (get_or_from_slice_get ks c.0 c.1 c.1 at)) in
    ap₂ (λ i m. cond (nat_lt i m) (Some i) None) (position_or_len-set test ks c.0 w c.1 same) (length-set ks c.0 w)
place_stays false (Place i) ks c w at name = refl

stands_there : (ks : List Element) (i : ℕ) (k w : Element)
    → slice_get ks i ≡ Some k → slice_get (slice_set ks i w) i ≡ Some w
stands_there ks i k w at =
    let within = slice_get_within ks i k at in
    slice_get-get_or (slice_set ks i w) i w (subst (λ m. i < m) (sym (length-set ks i w)) within)
    ∙ ap (λ (z : Element). Some z) (get_or-set_same ks i w w within)

child_again : (l : Bool) (s : PathStep) (ks : List Element) (c : Child) (w : Element) → child_by l s ks ≡ Some c
    → id_short_of w ≡ id_short_of c.1
    → child_by l s (slice_set ks c.0 w) ≡ Some (c.0, w)
unfolding child_by
child_again l s ks c w is name =
    let at = child_by-there l s ks c is in
    ap (option_and_then (λ i. option_map (λ k. (i, k)) (slice_get (slice_set ks c.0 w) i)))
    (place_stays l s ks c w at.1 name ∙ at.0)
    ∙ ap (option_map (λ k. (c.0, k))) (stands_there ks c.0 c.1 w at.1)

-- an element with other children
kids_there : (e : Element) (ks : List Element) (s : PathStep) (p : List PathStep)
    → element_below (s ∷ p) (with_kids e ks) ≡ element_among (is_list e) s p ks
kids_there e ks s p =
    element_below-cons s p (with_kids e ks)
    ∙ ap (λ (y : Element-F Element). element_among (is_list_payload y.payload) s p y.kids)
    (out-roll-Element (record (out-Element e) { kids = ks }))

kids_put : (e : Element) (ks : List Element) (s : PathStep) (p : List PathStep) (z : Element)
    → with_below (s ∷ p) (with_kids e ks) z ≡ with_kids e (with_among (is_list e) s p ks z)
kids_put e ks s p z =
    with_below-cons s p (with_kids e ks) z
    ∙ ap (λ (y : Element-F Element).
    roll-Element (record y { kids = with_among (is_list_payload y.payload) s p y.kids z }))
    (out-roll-Element (record (out-Element e) { kids = ks }))

kids_named : (e : Element) (ks : List Element) → id_short_of (with_kids e ks) ≡ id_short_of e
kids_named e ks =
    ap (λ (y : Element-F Element). y.common.id_short) (out-roll-Element (record (out-Element e) { kids = ks }))

-- ---- along a path

module _ (k w : Element) (name : id_short_of w ≡ id_short_of k) where
  named_below : (p : List PathStep) (e : Element)
      → element_below p e ≡ Some k → id_short_of (with_below p e w) ≡ id_short_of e
  unfolding element_below with_below
  named_below [] e is = let same : k ≡ e = cc in name ∙ ap id_short_of same
  named_below (s ∷ p) e is = kids_named e (with_among (is_list e) s p (kids_of e) w)

  IsAgain : List PathStep → Element → Type 0
  IsAgain p e = element_below p e ≡ Some k
      → (element_below p (with_below p e w) ≡ Some w)
      × ((z : Element) → with_below p (with_below p e w) z ≡ with_below p e z)

  among_again : (l : Bool) (s : PathStep) (p : List PathStep) (ks : List Element)
      → ((e : Element) → IsAgain p e) → (o : Option Child)
      → child_by l s ks ≡ o
      → option_and_then (λ (c : Child). element_below p c.1) o ≡ Some k
      → (element_among l s p (with_child (λ e. with_below p e w) ks o) ≡ Some w)
      × ((z : Element)
      → with_among l s p (with_child (λ e. with_below p e w) ks o) z ≡ with_child (λ e. with_below p e z) ks o)
  unfolding IsAgain
  among_again l s p ks below None is there = absurd (cc)
  among_again l s p ks below (Some c) is there =
      let put = with_below p c.1 w in
      let here = child_again l s ks c put is (named_below p c.1 there) in
      let again = below c.1 there in (
        ap (option_and_then (λ (x : Child). element_below p x.1)) here ∙ again.0,
        λ z. ap (with_child (λ e. with_below p e z) (slice_set ks c.0 put)) here
            ∙ ap (slice_set (slice_set ks c.0 put) c.0) (again.1 z)
            ∙ set-set ks c.0 put (with_below p c.1 z),
      )

  below_again : (p : List PathStep) (e : Element) → IsAgain p e
  unfolding IsAgain element_below with_below
  below_again [] e is = (refl, λ z. refl)
  below_again (s ∷ p) e is =
      let ks = kids_of e in
      let l = is_list e in
      let again = among_again l s p ks (below_again p) (child_by l s ks) refl is in (
        kids_there e (with_among l s p ks w) s p ∙ again.0,
        λ z. kids_put e (with_among l s p ks w) s p z ∙ ap (with_kids e) (again.1 z),
      )

  pub element_again : (d : Submodel) (p : List PathStep) → element_at d p ≡ Some k
      → (element_at (with_element d p w) p ≡ Some w)
      × ((z : Element) → with_element (with_element d p w) p z ≡ with_element d p z)
  element_again d [] is = absurd (cc)
  element_again d (s ∷ p) is =
      let again = among_again false s p d.kids (below_again p) (child_by false s d.kids) refl is in
      (again.0, λ z. ap (λ ks. record d { kids = ks }) (again.1 z))
