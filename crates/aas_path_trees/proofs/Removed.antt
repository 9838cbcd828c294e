-- Where a path leads nowhere, nothing is removed.
use Rattle.std.proofs.Common.{◌≡◌, ℕ, Bool, List, [], ◌∷◌, Option, Some, None, slice_get, slice_set, option_and_then, refl, sym, ap, ◌∙◌}
use Rattle.std.proofs.lemmas.List.{set-get_or}
use Rattle.std.proofs.lemmas.Option.{get_or_from_slice_get}
use Rattle.aas_model.specs.declared.element.Element.{Element, roll-out-Element}
use Rattle.aas_model.specs.declared.path.PathStep.{PathStep}
use Rattle.aas_path_trees.specs.Children.{kids_of, is_list, with_kids}
use Rattle.aas_path_trees.specs.Edits.{without_child, removed_among}
use Rattle.aas_path_trees.specs.ElementAt.{child_by, element_below, element_among}
use Rattle.aas_path_trees.specs.WithElement.{with_child}
use Rattle.aas_path_trees.proofs.Paths.{child_by-there}

abbrev Child : Type 0
Child = ℕ × Element

last_none : (ks : List Element) (o : Option Child) → option_and_then (λ (c : Child). Some c.1) o ≡ None → without_child ks o ≡ ks
last_none ks None e = refl
last_none ks (Some c) e = absurd (cc)

further_none : (ks : List Element) (f : Element → Element) (g : Element → Option Element) (o : Option Child) → ((c : Child) → o ≡ Some c → slice_get ks c.0 ≡ Some c.1)
    → ((k : Element) → g k ≡ None → f k ≡ k) → option_and_then (λ (c : Child). g c.1) o ≡ None → with_child f ks o ≡ ks
further_none ks f g None there h e = refl
further_none ks f g (Some c) there h e = ap (slice_set ks c.0) (h c.1 e ∙ sym (get_or_from_slice_get ks c.0 c.1 c.1 (there c refl))) ∙ set-get_or ks c.0 c.1

pub removed_among-none : (p : List PathStep) (l : Bool) (s : PathStep) (ks : List Element) → element_among l s p ks ≡ None → removed_among l s p ks ≡ ks
unfolding element_below removed_among
removed_among-none [] l s ks e = last_none ks (child_by l s ks) e
removed_among-none (t ∷ p) l s ks e =
    further_none ks (λ k. with_kids k (removed_among (is_list k) t p (kids_of k))) (element_below (t ∷ p)) (child_by l s ks) (λ c is. (child_by-there l s ks c is).1)
    (λ k none. ap (with_kids k) (removed_among-none p (is_list k) t (kids_of k) none) ∙ roll-out-Element k) e
