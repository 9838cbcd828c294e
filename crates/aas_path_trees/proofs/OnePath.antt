-- One path leads to each place, where siblings differ.
use Rattle.std.proofs.Common.{◌≡◌, ℕ, ◌<◌, ◌≤◌, ◌^◌, Bool, true, false, List, [], ◌∷◌, length, Option, Some, None, IsSome, slice_get, get_or, option_and_then, option_map, refl, sym, ap, ◌∙◌, subst, arith, if◌then◌else◌, nat_lt}
use Rattle.std.specs.List.{AllByRecursion, position_or_len}
use Rattle.std.proofs.lemmas.Bool.Decides.{Decides-ltb}
use Rattle.std.proofs.lemmas.List.Quantifiers.{position-Some}
use Rattle.std.proofs.lemmas.List.Sums.{position_or_len_is}
use Rattle.std.proofs.lemmas.Option.{slice_get_within, get_or_from_slice_get, slice_get-get_or, cond_some}
use Rattle.std.proofs.lemmas.Slice.Eq.{bytes_eq-Decides}
use Rattle.aas_model.specs.declared.documents.Submodel.{Submodel}
use Rattle.aas_model.specs.declared.element.Element.{Element}
use Rattle.aas_model.specs.declared.path.PathStep.{PathStep}
use Rattle.aas_model.specs.declared.path.PathStep.TheVariants.{Name, Place}
use Rattle.aas_path_trees.specs.Children.{kids_of, id_short_of, is_list}
use Rattle.aas_path_trees.specs.ElementAt.{is_text, place_named, place_of, child_by, element_below, element_among}
use Rattle.aas_path_trees.specs.Laws.{HasOnePath}
use Rattle.aas_path_trees.specs.PathRule.{StepKeepsRule, KeepsRule}
use Rattle.aas_path_trees.specs.Places.{element_in, element_in_all, place_below, place_at, Differ, SiblingsDiffer, AreNamed, StepsKeepRule}
use Rattle.aas_path_trees.proofs.Paths.{child_by-there}

abbrev Child : Type 0
Child = ℕ × Element

-- ---- the place to which a path leads, child by child

abbrev placed : List PathStep → Option Child → Option (List ℕ)
placed p o = option_and_then (λ c. option_map (λ q. c.0 ∷ q) (place_below p c.1)) o

record Leads (p : List PathStep) (o : Option Child) (q : List ℕ) : Type 0 where
  child : Child
  rest : List ℕ
  first : o ≡ Some child
  more : place_below p child.1 ≡ Some rest
  whole : q ≡ child.0 ∷ rest

leads_on : (p : List PathStep) (c : Child) (o : Option (List ℕ)) (q : List ℕ) → place_below p c.1 ≡ o → option_map (λ (r : List ℕ). c.0 ∷ r) o ≡ Some q → Leads p (Some c) q
leads_on p c None q h e = absurd (cc)
leads_on p c (Some r) q h e = record { child = c; rest = r; first = refl; more = h; whole = let same : c.0 ∷ r ≡ q = cc in sym same }

leads : (p : List PathStep) (o : Option Child) (q : List ℕ) → placed p o ≡ Some q → Leads p o q
leads p None q e = absurd (cc)
leads p (Some c) q e = leads_on p c (place_below p c.1) q refl e

-- ---- the one step that leads to a child

pub text_is : (n : List ℕ) (o : Option (List ℕ)) → is_text n o ≡ true → o ≡ Some n
text_is n None e = absurd (cc)
text_is n (Some m) e = ap (λ (t : List ℕ). Some t) ((bytes_eq-Decides m n).0 e)

text_of : (n : List ℕ) (o : Option (List ℕ)) → o ≡ Some n → is_text n o ≡ true
text_of n None e = absurd (cc)
text_of n (Some m) e = (bytes_eq-Decides m n).1 (cc)

-- what a step is, by the child to which it leads
abbrev Fit : Bool → PathStep → Child → Type 0
Fit true s c = s ≡ Place c.0
Fit false s c = (n : List ℕ) × (s ≡ Name n) × (id_short_of c.1 ≡ Some n)

fit : (l : Bool) (s : PathStep) (ks : List Element) (c : Child) → place_of l s ks ≡ Some c.0 → slice_get ks c.0 ≡ Some c.1 → Fit l s c
unfolding place_of
fit true (Name n) ks c e there = absurd (cc)
fit true (Place i) ks c e there = ap (λ (j : ℕ). Place j) (cond_some (nat_lt i (length ks)) i c.0 e).1
fit false (Name n) ks c e there =
    let found = position-Some (λ k. is_text n (id_short_of k)) ks c.0 c.1 e in
    let here : get_or ks c.0 c.1 ≡ c.1 = get_or_from_slice_get ks c.0 c.1 c.1 there in
    (n, refl, text_is n (id_short_of c.1) (ap (λ k. is_text n (id_short_of k)) (sym here) ∙ found.1))
fit false (Place i) ks c e there = absurd (cc)

same_step : (l : Bool) (s t : PathStep) (c : Child) → Fit l s c → Fit l t c → s ≡ t
same_step true s t c a b = a ∙ sym b
same_step false s t c a b = let same : Some a.0 ≡ Some b.0 = sym a.2 ∙ b.2 in let names : a.0 ≡ b.0 = cc in a.1 ∙ ap (λ (n : List ℕ). Name n) names ∙ sym b.1

same_child : (ks : List Element) (c d : Child) → slice_get ks c.0 ≡ Some c.1 → slice_get ks d.0 ≡ Some d.1 → c.0 ≡ d.0 → c ≡ d
same_child ks c d a b e = let same : Some c.1 ≡ Some d.1 = sym a ∙ ap (slice_get ks) e ∙ b in let kid : c.1 ≡ d.1 = cc in λ i. (e i, kid i)

-- ---- no two paths lead to one place

step_alike : (l : Bool) (s t : PathStep) (ks : List Element) (p r : List PathStep) (q : List ℕ) → ((e : Element) (q : List ℕ) → place_below p e ≡ Some q → place_below r e ≡ Some q → p ≡ r)
    → Leads p (child_by l s ks) q → Leads r (child_by l t ks) q → s ∷ p ≡ t ∷ r
step_alike l s t ks p r q h a b =
    let there_a = child_by-there l s ks a.child a.first in
    let there_b = child_by-there l t ks b.child b.first in
    let whole : a.child.0 ∷ a.rest ≡ b.child.0 ∷ b.rest = sym a.whole ∙ b.whole in
    let place : a.child.0 ≡ b.child.0 = cc in
    let rest : a.rest ≡ b.rest = cc in
    let child : a.child ≡ b.child = same_child ks a.child b.child there_a.1 there_b.1 place in
    let fit_a : Fit l s b.child = subst (Fit l s) child (fit l s ks a.child there_a.0 there_a.1) in
    let step : s ≡ t = same_step l s t b.child fit_a (fit l t ks b.child there_b.0 there_b.1) in
    let more : p ≡ r = h b.child.1 b.rest (ap (λ (c : Child). place_below p c.1) (sym child) ∙ a.more ∙ ap (λ (q : List ℕ). Some q) rest) b.more in
    cc

nothing_first : (s : PathStep) (p : List PathStep) (e : Element) (q : List ℕ) → q ≡ [] → Leads p (child_by (is_list e) s (kids_of e)) q → ⊥
nothing_first s p e q none a = let whole : [] ≡ a.child.0 ∷ a.rest = sym none ∙ a.whole in absurd (cc)

some_nil : (q : List ℕ) → Some [] ≡ Some q → q ≡ []
some_nil q e = cc

pub place_below-once : (p r : List PathStep) (e : Element) (q : List ℕ) → place_below p e ≡ Some q → place_below r e ≡ Some q → p ≡ r
unfolding place_below
place_below-once [] [] e q a b = refl
place_below-once [] (t ∷ r) e q a b = absurd (nothing_first t r e q (some_nil q a) (leads r (child_by (is_list e) t (kids_of e)) q b))
place_below-once (s ∷ p) [] e q a b = absurd (nothing_first s p e q (some_nil q b) (leads p (child_by (is_list e) s (kids_of e)) q a))
place_below-once (s ∷ p) (t ∷ r) e q a b =
    step_alike (is_list e) s t (kids_of e) p r q (place_below-once p r) (leads p (child_by (is_list e) s (kids_of e)) q a) (leads r (child_by (is_list e) t (kids_of e)) q b)

pub place_at-once : (d : Submodel) (p r : List PathStep) (q : List ℕ) → place_at d p ≡ Some q → place_at d r ≡ Some q → p ≡ r
place_at-once d [] r q a b = absurd (cc)
place_at-once d (s ∷ p) [] q a b = absurd (cc)
place_at-once d (s ∷ p) (t ∷ r) q a b = step_alike false s t d.kids p r q (place_below-once p r) (leads p (child_by false s d.kids) q a) (leads r (child_by false t d.kids) q b)

-- ---- a path leads to each place

no_earlier : (ks : List Element) (i j : ℕ) (k : Element) (n : List ℕ) → Differ ks → slice_get ks i ≡ Some k → id_short_of k ≡ Some n → j < i → i < length ks
    → (b : Bool) → is_text n (id_short_of (get_or ks j k)) ≡ b → b ≡ false
no_earlier ks i j k n differ there name below within false e = refl
no_earlier ks i j k n differ there name below within true e =
    let at_j : slice_get ks j ≡ Some (get_or ks j k) = slice_get-get_or ks j k (omega arith) in
    let same : j ≡ i = differ.apart j i (get_or ks j k) k at_j there (text_is n (id_short_of (get_or ks j k)) e ∙ sym name) in
    absurd (omega arith)

named_first : (ks : List Element) (i : ℕ) (k : Element) (n : List ℕ) → Differ ks → slice_get ks i ≡ Some k → id_short_of k ≡ Some n → place_named n ks ≡ Some i
named_first ks i k n differ there name =
    let test : Element → Bool = λ m. is_text n (id_short_of m) in
    let within : i < length ks = slice_get_within ks i k there in
    let here : get_or ks i k ≡ k = get_or_from_slice_get ks i k k there in
    let passes : test (get_or ks i k) ≡ true = ap test here ∙ text_of n (id_short_of k) name in
    let first : position_or_len test ks ≡ i = position_or_len_is test ks i k (omega arith) (λ j below. no_earlier ks i j k n differ there name below within _ refl) (λ _. passes) in
    ap (λ (j : ℕ). if nat_lt j (length ks) then Some j else None) first ∙ ap (λ b. if b then Some i else None) ((Decides-ltb i (length ks)).1 within)

pub child_at : (l : Bool) (s : PathStep) (ks : List Element) (i : ℕ) (k : Element) → place_of l s ks ≡ Some i → slice_get ks i ≡ Some k → child_by l s ks ≡ Some (i, k)
unfolding child_by
child_at l s ks i k place there = ap (λ o. option_and_then (λ i. option_map (λ k. (i, k)) (slice_get ks i)) o) place ∙ ap (λ o. option_map (λ k. (i, k)) o) there

-- where the children of a list, or of something else, can be written in a path
record CanBeNamed (l : Bool) (ks : List Element) : Type 0 where
  names : l ≡ false → AreNamed ks
  places : l ≡ true → length ks ≤ 10 ^ 9

record StepTo (l : Bool) (ks : List Element) (i : ℕ) (k : Element) : Type 0 where
  step : PathStep
  leads : child_by l step ks ≡ Some (i, k)
  keeps : CanBeNamed l ks → StepKeepsRule step

step_named : (ks : List Element) (i : ℕ) (k : Element) (o : Option (List ℕ)) → Differ ks → slice_get ks i ≡ Some k → id_short_of k ≡ o → IsSome o → StepTo false ks i k
unfolding place_of
step_named ks i k None differ there name some = absurd (cc)
step_named ks i k (Some n) differ there name some = record {
  step = Name n;
  leads = child_at false (Name n) ks i k (named_first ks i k n differ there name) there;
  keeps = λ can. can.names refl i k n there name;
}

step_to : (l : Bool) (ks : List Element) (i : ℕ) (k : Element) → (l ≡ false → Differ ks) → slice_get ks i ≡ Some k → StepTo l ks i k
unfolding place_of
step_to true ks i k differ there =
    let within : i < length ks = slice_get_within ks i k there in record {
      step = Place i;
      leads = child_at true (Place i) ks i k (ap (λ b. if b then Some i else None) ((Decides-ltb i (length ks)).1 within)) there;
      keeps = λ can. omega (arith, can.places refl);
    }
step_to false ks i k differ there = step_named ks i k (id_short_of k) (differ refl) there refl ((differ refl).named i k there)

abbrev AllDiffer : Element → Type 0
AllDiffer o = (q : List ℕ) (e : Element) → element_in q o ≡ Some e → is_list e ≡ false → Differ (kids_of e)

abbrev AllCanBeNamed : Element → Type 0
AllCanBeNamed o = (q : List ℕ) (e : Element) → element_in q o ≡ Some e → CanBeNamed (is_list e) (kids_of e)

record HasPath (o : Element) (q : List ℕ) (e : Element) : Type 0 where
  path : List PathStep
  leads : place_below path o ≡ Some q
  finds : element_below path o ≡ Some e
  keeps : AllCanBeNamed o → AllByRecursion StepKeepsRule path

record HasPathAmong (l : Bool) (ks : List Element) (q : List ℕ) (e : Element) : Type 0 where
  step : PathStep
  path : List PathStep
  leads : placed path (child_by l step ks) ≡ Some q
  finds : element_among l step path ks ≡ Some e
  keeps : CanBeNamed l ks → ((i : ℕ) (k : Element) → slice_get ks i ≡ Some k → AllCanBeNamed k) → StepKeepsRule step × AllByRecursion StepKeepsRule path

-- one step, and then a path from where it leads
step_on : (l : Bool) (ks : List Element) (i : ℕ) (q : List ℕ) (k e : Element) → slice_get ks i ≡ Some k → StepTo l ks i k → HasPath k q e → HasPathAmong l ks (i ∷ q) e
step_on l ks i q k e there s more = record {
  step = s.step;
  path = more.path;
  leads = ap (placed more.path) s.leads ∙ ap (λ o. option_map (λ (r : List ℕ). i ∷ r) o) more.leads;
  finds = ap (option_and_then (λ (c : Child). element_below more.path c.1)) s.leads ∙ more.finds;
  keeps = λ can below. (s.keeps can, more.keeps (below i k there));
}

path_down : (l : Bool) (ks : List Element) (i : ℕ) (q : List ℕ) (e : Element) (found : Option Element) → slice_get ks i ≡ found → option_and_then (element_in q) found ≡ Some e → (l ≡ false → Differ ks)
    → ((k : Element) → slice_get ks i ≡ Some k → element_in q k ≡ Some e → HasPath k q e) → HasPathAmong l ks (i ∷ q) e
path_down l ks i q e None is there differ more = absurd (cc)
path_down l ks i q e (Some k) is there differ more = step_on l ks i q k e is (step_to l ks i k differ is) (more k is there)

path_to : (q : List ℕ) (o e : Element) → AllDiffer o → element_in q o ≡ Some e → HasPath o q e
unfolding element_in element_below place_below
path_to [] o e differ there = record { path = []; leads = refl; finds = there; keeps = λ _. tt }
path_to (i ∷ q) o e differ there =
    let on = path_down (is_list o) (kids_of o) i q e (slice_get (kids_of o) i) refl there (differ [] o refl)
    (λ k is more. path_to q k e (λ r f found. differ (i ∷ r) f (ap (option_and_then (element_in r)) is ∙ found)) more) in
    record {
      path = on.step ∷ on.path;
      leads = on.leads;
      finds = on.finds;
      keeps = λ can. on.keeps (can [] o refl) (λ j k is r f found. can (j ∷ r) f (ap (option_and_then (element_in r)) is ∙ found));
    }

path_among : (d : Submodel) (q : List ℕ) (e : Element) → SiblingsDiffer d → element_in_all q d.kids ≡ Some e → HasPathAmong false d.kids q e
unfolding element_in
path_among d [] e differ there = absurd (cc)
path_among d (i ∷ q) e differ there =
    path_down false d.kids i q e (slice_get d.kids i) refl there (λ _. differ.first) (λ k is more. path_to q k e (λ r f found. differ.below (i ∷ r) f (ap (option_and_then (element_in r)) is ∙ found)) more)

named_below : (d : Submodel) → StepsKeepRule d → (i : ℕ) (k : Element) → slice_get d.kids i ≡ Some k → AllCanBeNamed k
named_below d can i k is r f found =
    let there : element_in_all (i ∷ r) d.kids ≡ Some f = ap (option_and_then (element_in r)) is ∙ found in
    record { names = can.below (i ∷ r) f there; places = can.lists (i ∷ r) f there }

-- in a submodel a path begins with a name
writes : (ks : List Element) (s : PathStep) (p : List PathStep) (q : List ℕ) → placed p (child_by false s ks) ≡ Some q → StepKeepsRule s × AllByRecursion StepKeepsRule p → KeepsRule (s ∷ p)
unfolding child_by place_of
writes ks (Name n) p q leads keeps = keeps
writes ks (Place i) p q leads keeps = absurd (cc)

pub one_path : (d : Submodel) (q : List ℕ) (e : Element) → SiblingsDiffer d → element_in_all q d.kids ≡ Some e → HasOnePath d q e
one_path d q e differ there =
    let on = path_among d q e differ there in record {
      path = on.step ∷ on.path;
      leads = on.leads;
      finds = on.finds;
      keeps = λ can. writes d.kids on.step on.path q on.leads (on.keeps (record { names = λ _. can.first; places = λ no. absurd (cc) }) (named_below d can));
      only = λ p leads. place_at-once d p (on.step ∷ on.path) q leads on.leads;
    }
