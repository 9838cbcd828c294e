-- What another element in the place of one changes, where it has the same idShort, the same children, and is the same as its parent's value form sees it.
use Rattle.std.proofs.Common.{◌≡◌, ℕ, Bool, false, List, [], ◌∷◌, ◌++◌, map, Option, Some, None, option_and_then, refl, sym, ap, ap₂, ◌∙◌}
use Rattle.aas_model.specs.declared.documents.Submodel.{Submodel}
use Rattle.aas_model.specs.declared.element.Element.{Element, Element-F, out-Element, roll-Element, out-roll-Element}
use Rattle.aas_model.specs.declared.path.PathStep.{PathStep}
use Rattle.aas_model_names.specs.declared.modifiers.Extent.{Extent}
use Rattle.aas_path_trees.specs.Children.{kids_of, id_short_of, is_list, with_kids}
use Rattle.aas_path_trees.specs.ElementAt.{child_by, element_below, element_among, element_at}
use Rattle.aas_path_trees.specs.WithElement.{with_child, with_below, with_among, with_element}
use Rattle.aas_path_trees.proofs.Paths.{child_by-there, element_among-append, element_below-cons, with_below-cons}
use Rattle.aas_edit_laws.proofs.Others.{there_among, there_below}
use Rattle.aas_value.specs.ValueForm.{part_of}
use Rattle.aas_meta_update.specs.Laws.{own_of}
use Rattle.aas_meta_update.proofs.ValueForms.{kids_part, set_same}

abbrev Place : Type 0
Place = ℕ × Element

own_kids : (e : Element) (ks : List Element) → own_of (with_kids e ks) ≡ own_of e
own_kids e ks = ap (λ (y : Element-F Element). roll-Element (record y { kids = [] })) (out-roll-Element (record (out-Element e) { kids = ks }))

pub own_stays : (w : Element) (s : PathStep) (p : List PathStep) (e : Element) → own_of (with_below (s ∷ p) e w) ≡ own_of e
own_stays w s p e = ap own_of (with_below-cons s p e w) ∙ own_kids e (with_among (is_list e) s p (kids_of e) w)

module _ (w o : Element) (same_name : id_short_of w ≡ id_short_of o) (same_kids : kids_of w ≡ kids_of o) (same_list : is_list w ≡ is_list o)
    (same_part : (x : Extent) → part_of x w ≡ part_of x o) where
  leads_on : (l : Bool) (s : PathStep) (p : List PathStep) (ks : List Element) (k : Place) → child_by l s ks ≡ Some k → element_among l s p ks ≡ Some o → element_below p k.1 ≡ Some o
  leads_on l s p ks k is there = sym (ap (option_and_then (λ (c : Place). element_below p c.1)) is) ∙ there

  -- ---- value forms

  among_part : (x : Extent) (l : Bool) (s : PathStep) (ks : List Element) (f : Element → Element) (c : Option Place)
      → child_by l s ks ≡ c
      → ((k : Place) → child_by l s ks ≡ Some k → part_of x (f k.1) ≡ part_of x k.1)
      → map (part_of x) (with_child f ks c) ≡ map (part_of x) ks
  among_part x l s ks f None is same = refl
  among_part x l s ks f (Some k) is same =
      set_same (part_of x) ks k.0 k.1 (f k.1) (child_by-there l s ks k is).1 (same k is)

  pub part_stays : (x : Extent) (p : List PathStep) (e : Element)
      → element_below p e ≡ Some o → part_of x (with_below p e w) ≡ part_of x e
  unfolding element_below with_below
  part_stays x [] e is = let same : o ≡ e = cc in same_part x ∙ ap (part_of x) same
  part_stays x (s ∷ p) e is =
      kids_part x e (with_among (is_list e) s p (kids_of e) w)
      (among_part x (is_list e) s (kids_of e) (λ k. with_below p k w) (child_by (is_list e) s (kids_of e)) refl
      (λ k found. part_stays x p k.1 (leads_on (is_list e) s p (kids_of e) k found is)))

  kids_stay : (x : Extent) (s : PathStep) (p : List PathStep) (ks : List Element)
      → element_among false s p ks ≡ Some o → map (part_of x) (with_among false s p ks w) ≡ map (part_of x) ks
  kids_stay x s p ks is =
      among_part x false s ks (λ k. with_below p k w) (child_by false s ks) refl
      (λ k found. part_stays x p k.1 (leads_on false s p ks k found is))

  -- ---- other paths

  below_here : (t : PathStep) (c : List PathStep) → element_below (t ∷ c) w ≡ element_below (t ∷ c) o
  below_here t c = element_below-cons t c w ∙ ap₂ (λ l ks. element_among l t c ks) same_list same_kids ∙ sym (element_below-cons t c o)

  module _ (d : Submodel) where
    pub there_at : (p : List PathStep) → element_at d p ≡ Some o → element_at (with_element d p w) p ≡ Some w
    there_at [] is = absurd (cc)
    there_at (s ∷ p) is = there_among w o same_name false s p d.kids (child_by false s d.kids) (there_below w o same_name p) refl is

    pub below_at : (p : List PathStep) (c : List PathStep) (t : PathStep) → element_at d p ≡ Some o → element_at (with_element d p w) (p ++ t ∷ c) ≡ element_at d (p ++ t ∷ c)
    below_at [] c t is = absurd (cc)
    below_at (s ∷ p) c t is =
        let u = with_element d (s ∷ p) w in
        element_among-append false s p (t ∷ c) u.kids
        ∙ ap (option_and_then (element_below (t ∷ c))) (there_at (s ∷ p) is)
        ∙ below_here t c
        ∙ sym (element_among-append false s p (t ∷ c) d.kids ∙ ap (option_and_then (element_below (t ∷ c))) is)

    pub value_at : (x : Extent) (p : List PathStep)
        → element_at d p ≡ Some o → map (part_of x) (with_element d p w).kids ≡ map (part_of x) d.kids
    value_at x [] is = absurd (cc)
    value_at x (s ∷ p) is = kids_stay x s p d.kids is
