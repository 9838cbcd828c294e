-- Children stay whole along the path of an edit.
use Rattle.std.proofs.Common.{◌≡◌, ℕ, ◌+◌, Bool, List, [], ◌∷◌, length, Option, Some, None, option_and_then, refl, sym, ap, ◌∙◌, subst, arith}
use Rattle.aas_model.specs.declared.element.Element.{Element}
use Rattle.aas_model.specs.declared.path.PathStep.{PathStep}
use Rattle.aas_model.specs.declared.payload.Payload.{Payload}
use Rattle.aas_path_trees.specs.Children.{kids_of, is_list, with_kids}
use Rattle.aas_path_trees.specs.Edits.{without_child, removed_among}
use Rattle.aas_path_trees.specs.ElementAt.{child_by, element_below, element_among}
use Rattle.aas_path_trees.specs.WithElement.{with_child, with_below, with_among}
use Rattle.aas_path_trees.proofs.Paths.{child_by-there}
use Rattle.aas_edit_laws.proofs.OneLevel.{payload_of, kids_like, kids_whole}
use Rattle.aas_edit_laws.proofs.Siblings.{IsWhole, IsWholeUnder, AreWhole, IsLike, each_at, one_changed, one_out}

abbrev Child : Type 0
Child = ℕ × Element

-- w may stand where k stands, and is whole
record StaysWhole (left : ℕ) (k w : Element) : Type 0 where
  whole : IsWhole left w
  like : IsLike k w

-- Children stay whole where the one to which a step leads is changed, and stays so.
child_changed : (left : ℕ) (x : Payload) (ks : List Element) (f : Element → Element) (l : Bool) (s : PathStep) (o : Option Child) → child_by l s ks ≡ o
    → AreWhole left x ks → ((c : Child) → child_by l s ks ≡ Some c → IsWhole left c.1 → StaysWhole left c.1 (f c.1)) → AreWhole left x (with_child f ks o)
child_changed left x ks f l s None is are stays = are
child_changed left x ks f l s (Some c) is are stays =
    let at = (child_by-there l s ks c is).1 in
    let kept = stays c is (each_at (IsWholeUnder left x) ks c.0 c.1 are.each at).whole in
    one_changed left x ks c.0 c.1 (f c.1) are at kept.like kept.whole

-- ---- an element in the place of another

-- w may stand in the place of o, to which a path leads from an element that has so many levels left
pub record MayStandFor (left : ℕ) (p : List PathStep) (o w : Element) : Type 0 where
  pub like : IsLike o w
  pub whole : (rest : ℕ) → left ≡ length p + rest → IsWhole rest o → IsWhole rest w

found_by : (p : List PathStep) (o : Element) (step : Option Child) (c : Child) → step ≡ Some c
    → option_and_then (λ (c : Child). element_below p c.1) step ≡ Some o → element_below p c.1 ≡ Some o
found_by p o step c is there = sym (ap (option_and_then (λ (c : Child). element_below p c.1)) is) ∙ there

below_whole : (p : List PathStep) (left : ℕ) (e o w : Element) → IsWhole left e → element_below p e ≡ Some o → MayStandFor left p o w
    → StaysWhole left e (with_below p e w)
unfolding element_below with_below
below_whole [] left e o w whole there may =
    let same : o ≡ e = cc in record {
      whole = may.whole left (omega arith) (subst (IsWhole left) (sym same) whole);
      like = subst (λ x. IsLike x w) same may.like;
    }
below_whole (s ∷ p) left e o w whole there may =
    let step = child_by (is_list e) s (kids_of e) in
    let f : Element → Element = λ k. with_below p k w in record {
      whole = kids_whole left e (with_child f (kids_of e) step) whole
          (λ rest spent are. child_changed rest (payload_of e) (kids_of e) f (is_list e) s step refl are
          (λ c is child. below_whole p rest c.1 o w child (found_by p o step c is there)
          (record { like = may.like; whole = λ n more. may.whole n (omega (arith, spent, more)) })));
      like = kids_like e (with_child f (kids_of e) step);
    }

-- Children stay whole where an element to which a path leads among them is changed.
pub among_whole : (left : ℕ) (x : Payload) (l : Bool) (s : PathStep) (p : List PathStep) (ks : List Element) (o w : Element) → AreWhole left x ks
    → element_among l s p ks ≡ Some o → MayStandFor left p o w → AreWhole left x (with_among l s p ks w)
among_whole left x l s p ks o w are there may =
    let step = child_by l s ks in
    child_changed left x ks (λ k. with_below p k w) l s step refl are (λ c is child. below_whole p left c.1 o w child (found_by p o step c is there) may)

-- ---- an element taken out

without_whole : (left : ℕ) (x : Payload) (ks : List Element) (o : Option Child) → AreWhole left x ks → AreWhole left x (without_child ks o)
without_whole left x ks None are = are
without_whole left x ks (Some c) are = one_out left x ks c.0 are

pub removed_whole : (p : List PathStep) (left : ℕ) (x : Payload) (l : Bool) (s : PathStep) (ks : List Element) → AreWhole left x ks
    → AreWhole left x (removed_among l s p ks)
unfolding removed_among
removed_whole [] left x l s ks are = without_whole left x ks (child_by l s ks) are
removed_whole (t ∷ p) left x l s ks are =
    let inner : Element → List Element = λ k. removed_among (is_list k) t p (kids_of k) in
    child_changed left x ks (λ k. with_kids k (inner k)) l s (child_by l s ks) refl are
    (λ (c : Child) is child. record {
      whole = kids_whole left c.1 (inner c.1) child (λ rest spent kids. removed_whole p rest (payload_of c.1) (is_list c.1) t (kids_of c.1) kids);
      like = kids_like c.1 (inner c.1);
    })
