-- How far a path leads.
use Rattle.std.proofs.Common.{◌≡◌, ℕ, zero, suc, ◌+◌, ◌<◌, ◌≤◌, false, List, [], ◌∷◌, length, take, Option, Some, None, IsSome, option_and_then, refl, sym, ◌∙◌, subst, arith}
use Rattle.std.specs.Option.{option_map_or}
use Rattle.aas_model.specs.declared.documents.Submodel.{Submodel}
use Rattle.aas_model.specs.declared.element.Element.{Element}
use Rattle.aas_model.specs.declared.path.PathStep.{PathStep}
use Rattle.aas_path_trees.specs.Children.{kids_of, is_list}
use Rattle.aas_path_trees.specs.ElementAt.{child_by, element_below, element_at, depth_below, depth_found}
use Rattle.aas_path_trees.specs.Laws.{LeadsSoFar}

abbrev Child : Type 0
Child = ℕ × Element

-- a path of n steps that leads somewhere, and not a step further
record Far (found : ℕ → Option Element) (n most : ℕ) : Type 0 where
  within : n ≤ most
  here : IsSome (found n)
  no_further : (k : ℕ) → n < k → k ≤ most → found k ≡ None

abbrev found_by : List PathStep → Option Child → ℕ → Option Element
found_by p o k = option_and_then (λ (c : Child). element_below (take k p) c.1) o

abbrev depth_by : List PathStep → Option Child → ℕ
depth_by p o = option_map_or (λ c. depth_below p c.1 + 1) o 0

-- of what stands behind a step, and so of the step with it
record FarBy (p : List PathStep) (o : Option Child) : Type 0 where
  within : depth_by p o ≤ suc (length p)
  here : (k : ℕ) → depth_by p o ≡ suc k → IsSome (found_by p o k)
  no_further : (k : ℕ) → depth_by p o < suc k → suc k ≤ suc (length p) → found_by p o k ≡ None

far_by : (p : List PathStep) (o : Option Child) → ((e : Element) → Far (λ k. element_below (take k p) e) (depth_below p e) (length p)) → FarBy p o
far_by p None h = record { within = omega arith; here = λ k e. absurd (omega arith); no_further = λ k _ _. refl }
far_by p (Some c) h =
    let far = h c.1 in record {
      within = omega (arith, far.within);
      here = λ k e. let same : depth_below p c.1 ≡ k = omega arith in subst (λ (n : ℕ). IsSome (element_below (take n p) c.1)) same far.here;
      no_further = λ k a b. far.no_further k (omega arith) (omega arith);
    }

step_far : (s : PathStep) (p : List PathStep) (o : Option Child) (n : ℕ) → depth_by p o ≡ n → FarBy p o → (found : ℕ → Option Element) → IsSome (found 0) → ((k : ℕ) → found (suc k) ≡ found_by p o k)
    → Far found n (suc (length p))
step_far s p o zero e far found top more = record {
  within = omega arith;
  here = top;
  no_further = after;
}
  where
    after : (k : ℕ) → 0 < k → k ≤ suc (length p) → found k ≡ None
    after zero a b = absurd (omega arith)
    after (suc k) a b = more k ∙ far.no_further k (omega arith) b
step_far s p o (suc n) e far found top more = record {
  within = omega (arith, far.within);
  here = subst (λ (x : Option Element). IsSome x) (sym (more n)) (far.here n e);
  no_further = after;
}
  where
    after : (k : ℕ) → suc n < k → k ≤ suc (length p) → found k ≡ None
    after zero a b = absurd (omega arith)
    after (suc k) a b = more k ∙ far.no_further k (omega arith) b

far_below : (p : List PathStep) (e : Element) → Far (λ k. element_below (take k p) e) (depth_below p e) (length p)
unfolding element_below depth_below
far_below [] e = record { within = omega arith; here = refl; no_further = λ k a b. absurd (omega arith) }
far_below (s ∷ p) e =
    let o = child_by (is_list e) s (kids_of e) in
    step_far s p o (depth_by p o) refl (far_by p o (far_below p)) (λ k. element_below (take k (s ∷ p)) e) refl (λ k. refl)

-- the submodel itself is no element
leads_by : (d : Submodel) (s : PathStep) (p : List PathStep) → FarBy p (child_by false s d.kids) → LeadsSoFar d (s ∷ p)
leads_by d s p far = record { within = far.within; here = here (depth_found d (s ∷ p)) refl; no_further = after }
  where
    here : (n : ℕ) → depth_found d (s ∷ p) ≡ n → 0 < n → IsSome (element_at d (take n (s ∷ p)))
    here zero e some = absurd (omega arith)
    here (suc n) e some = far.here n e

    after : (k : ℕ) → depth_found d (s ∷ p) < k → k ≤ suc (length p) → element_at d (take k (s ∷ p)) ≡ None
    after zero a b = absurd (omega arith)
    after (suc k) a b = far.no_further k a b

pub leads_so_far : (d : Submodel) (p : List PathStep) → LeadsSoFar d p
leads_so_far d [] = record { within = omega arith; here = λ a. absurd (omega arith); no_further = λ n a b. absurd (omega arith) }
leads_so_far d (s ∷ p) = leads_by d s p (far_by p (child_by false s d.kids) (far_below p))
