-- What is lent below, and what its lender ends as.
use Rattle.std.proofs.Common.{◌≡◌, ℕ, ◌<◌, Bool, List, [], ◌∷◌, ◌++◌, length, Option, Some, None, MutBor, slice_get, slice_set, unwrap_or, option_map, option_and_then, refl, sym, ap, ◌∙◌, subst, arith}
use Rattle.std.specs.Option.{option_copied_mut, ghost_name_of}
use Rattle.std.proofs.lemmas.Option.{slice_get_past}
use borrow.Follows.Closed.{read_of}
use mathlib.Core.Logic.{inl, inr}
use Rattle.aas_model.specs.declared.element.Element.{Element, roll-out-Element}
use Rattle.aas_model.specs.declared.path.PathStep.{PathStep}
use Rattle.aas_path_trees.specs.Children.{kids_of, is_list, with_kids}
use Rattle.aas_path_trees.specs.ElementAt.{place_of, child_by, element_below, element_among}
use Rattle.aas_path_trees.specs.WithElement.{with_child, with_below, with_among}
use Rattle.aas_path_trees.proofs.Paths.{element_below-cons, element_among-append, with_below-cons, with_among-append, with_among-same}

-- two lenders that end alike wherever something is lent, and where nothing is
same_read : {X R : Type 0} (r : Option (MutBor X)) (F G : X → R) (u v : R) → ((x : MutBor X) → r ≡ Some x → (w : X) → F w ≡ G w) → u ≡ v
    → read_of (ghost_name_of r) F u ≡ read_of (ghost_name_of r) G v
same_read None F G u v h e = λ i. inr (e i)
same_read (Some x) F G u v h e = λ i. inl (x.ghost_name, λ w. h x refl w i)

-- ---- one step

abbrev found : Option ℕ → List Element → Option (ℕ × Element)
found o ks = option_and_then (λ i. option_map (λ k. (i, k)) (slice_get ks i)) o

second : (i : ℕ) (v : Option Element) → v ≡ option_and_then (λ (c : ℕ × Element). Some c.1) (option_map (λ k. (i, k)) v)
second i None = refl
second i (Some k) = refl

one_value : (o : Option ℕ) (ks : List Element) → slice_get ks (unwrap_or o (length ks)) ≡ option_and_then (λ (c : ℕ × Element). Some c.1) (found o ks)
one_value None ks = slice_get_past ks (length ks) (omega arith)
one_value (Some i) ks = second i (slice_get ks i)

put : (i : ℕ) (v : Option Element) (ks : List Element) (x w : Element) → v ≡ Some x → slice_set ks i w ≡ with_child (λ k. w) ks (option_map (λ k. (i, k)) v)
put i None ks x w e = cc
put i (Some k) ks x w e = refl

one_write : (o : Option ℕ) (ks : List Element) (x w : Element) → slice_get ks (unwrap_or o (length ks)) ≡ Some x → slice_set ks (unwrap_or o (length ks)) w ≡ with_child (λ k. w) ks (found o ks)
one_write None ks x w e = let past : slice_get ks (length ks) ≡ None = slice_get_past ks (length ks) (omega arith) in cc
one_write (Some i) ks x w e = put i (slice_get ks i) ks x w e

copied : (r : Option (MutBor Element)) (x : MutBor Element) (v : Option Element) → option_copied_mut r ≡ v → r ≡ Some x → v ≡ Some x.now
copied r x v e is = sym e ∙ ap option_copied_mut is

pub one_step : (l : Bool) (s : PathStep) (p : List PathStep) (ks : List Element) (r : Option (MutBor Element)) (place : ℕ) → length p < 1
    → place ≡ unwrap_or (place_of l s ks) (length ks) → option_copied_mut r ≡ slice_get ks place
    → (read_of (ghost_name_of r) (slice_set ks place) ks ≡ read_of (ghost_name_of r) (with_among l s p ks) ks) × (option_copied_mut r ≡ element_among l s p ks)
unfolding child_by element_below with_below
one_step l s [] ks r place short at value =
    let here : option_copied_mut r ≡ slice_get ks (unwrap_or (place_of l s ks) (length ks)) = value ∙ ap (slice_get ks) at in (
      same_read r _ _ ks ks (λ x is w. ap (λ n. slice_set ks n w) at ∙ one_write (place_of l s ks) ks x.now w (copied r x _ here is)) refl,
      here ∙ one_value (place_of l s ks) ks,
    )
one_step l s (t ∷ p) ks r place short at value = absurd (omega arith)

-- ---- one path after another

pub nothing_after : (l : Bool) (s t : PathStep) (p q path : List PathStep) (ks : List Element) (r : Option (MutBor Element)) → r ≡ None → path ≡ p ++ t ∷ q → None ≡ element_among l s p ks
    → (inr ks ≡ read_of (ghost_name_of r) (with_among l s path ks) ks) × (option_copied_mut r ≡ element_among l s path ks)
nothing_after l s t p q path ks None e parts none =
    (refl, ap (option_and_then (element_below (t ∷ q))) none ∙ sym (element_among-append l s p (t ∷ q) ks) ∙ ap (λ x. element_among l s x ks) (sym parts))
nothing_after l s t p q path ks (Some x) e parts none = cc

two_paths : (l : Bool) (s t : PathStep) (p q path : List PathStep) (ks more : List Element) (k : Element) (r : Option (MutBor Element)) → path ≡ p ++ t ∷ q
    → Some k ≡ element_among l s p ks → more ≡ kids_of k → option_copied_mut r ≡ element_among (is_list k) t q more
    → (read_of (ghost_name_of r) (λ w. with_among l s p ks (with_kids k (with_among (is_list k) t q more w))) (with_among l s p ks (with_kids k more))
    ≡ read_of (ghost_name_of r) (with_among l s path ks) ks)
    × (option_copied_mut r ≡ element_among l s path ks)
two_paths l s t p q path ks more k r parts is kids value = (
  same_read r _ _ _ ks
      (λ x _ w. ap (λ z. with_among l s p ks (with_kids k (with_among (is_list k) t q z w))) kids ∙ ap (with_among l s p ks) (sym (with_below-cons t q k w)) ∙ sym (with_among-append l s p (t ∷ q) k w ks (sym is)) ∙ ap (λ y. with_among l s y ks w) (sym parts))
      (ap (λ z. with_among l s p ks (with_kids k z)) kids ∙ ap (with_among l s p ks) (roll-out-Element k) ∙ with_among-same l s p k ks (sym is)),
  value ∙ ap (element_among (is_list k) t q) kids ∙ sym (element_below-cons t q k) ∙ ap (option_and_then (element_below (t ∷ q))) is ∙ sym (element_among-append l s p (t ∷ q) ks) ∙ ap (λ y. element_among l s y ks) (sym parts),
)

-- the same, where a test said whether k is a list
pub two_paths_asked : (l : Bool) (s t : PathStep) (p q path : List PathStep) (ks more : List Element) (k : Element) (m : Bool) (r : Option (MutBor Element)) → path ≡ p ++ t ∷ q
    → Some k ≡ element_among l s p ks → more ≡ kids_of k → m ≡ is_list k → option_copied_mut r ≡ element_among m t q more
    → (read_of (ghost_name_of r) (λ w. with_among l s p ks (with_kids k (with_among m t q more w))) (with_among l s p ks (with_kids k more))
    ≡ read_of (ghost_name_of r) (with_among l s path ks) ks)
    × (option_copied_mut r ≡ element_among l s path ks)
two_paths_asked l s t p q path ks more k m r parts is kids asked =
    subst
    (λ (b : Bool). option_copied_mut r ≡ element_among b t q more
    → (read_of (ghost_name_of r) (λ w. with_among l s p ks (with_kids k (with_among b t q more w))) (with_among l s p ks (with_kids k more))
    ≡ read_of (ghost_name_of r) (with_among l s path ks) ks)
    × (option_copied_mut r ≡ element_among l s path ks))
    (sym asked) (two_paths l s t p q path ks more k r parts is kids)
