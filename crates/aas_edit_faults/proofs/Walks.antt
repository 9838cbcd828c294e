-- Along a path to what an edit changes.
use Rattle.std.proofs.Common.{◌≡◌, ℕ, Bool, true, false, List, [], ◌∷◌, ◌++◌, length, take, map, flat_map, Option, Some, None, slice_get, get_or, option_and_then, if◌then◌else◌, nat_lt, refl, sym, ap, ap₂, ◌∙◌, map-id}
use Rattle.std.proofs.lemmas.List.Quantifiers.{position-Some}
use Rattle.std.proofs.lemmas.Option.{get_or_from_slice_get, cond_some}
use Rattle.std.proofs.lemmas.Simd.{map-map}
use Rattle.std.proofs.lemmas.Slice.Eq.{bytes_eq-Decides}
use Rattle.aas_model.specs.declared.element.Element.{Element, Element-F, out-Element, out-roll-Element}
use Rattle.aas_model.specs.declared.element.Role.{Role}
use Rattle.aas_model.specs.declared.path.PathStep.{PathStep}
use Rattle.aas_model.specs.declared.path.PathStep.TheVariants.{Name, Place}
use Rattle.aas_model.specs.declared.payload.Payload.{Payload}
use Rattle.aas_model.specs.declared.payload.Payload.TheVariants as p
use Rattle.aas_reference.specs.Rules.{if_any}
use Rattle.aas_constraint_rules.specs.Decided.{is_id_short}
use Rattle.aas_constraint_rules.specs.Faults.{faults_at}
use Rattle.aas_constraint_rules.specs.Rules.{name_of, semantics_of}
use Rattle.aas_constraint_rules.specs.Sites.{Own, own_of, sites, tree_of, step_to, stands_in_list, named_or, is_list as is_list_of}
use Rattle.aas_constraint_rules.proofs.Elements.{under_fault}
use Rattle.aas_path_trees.specs.Children.{kids_of, id_short_of, is_list, is_list_payload, with_kids, with_role}
use Rattle.aas_path_trees.specs.Edits.{without_child, removed_among}
use Rattle.aas_path_trees.specs.ElementAt.{is_text, place_of, child_by, element_below, element_among}
use Rattle.aas_path_trees.specs.WithElement.{with_child, with_below, with_among}
use Rattle.aas_path_trees.proofs.Paths.{child_by-there}
use Rattle.aas_constraint_laws.specs.Law.{behind}
use Rattle.aas_constraint_laws.proofs.PathNames.{named_own}
use Rattle.aas_constraint_laws.proofs.Places.{none_local}
use Rattle.aas_edit_faults.proofs.Level.{at_root, broken_at, faults_among, faults_below, none_own, none_below}
use Rattle.aas_edit_faults.proofs.Siblings.{before, none_at, one_changed_below, one_out, so_many_before}
use Rattle.aas_edit_faults.proofs.Alone.{break_nothing, break_nothing_of, child_alone}

abbrev pub Child : Type 0
Child = ℕ × Element

-- ---- one element

abbrev own_over : Element-F Element → Own
own_over f = record { common = f.common; payload = f.payload; role = f.role }

pub own_with_kids : (e : Element) (ks : List Element) → own_of (with_kids e ks) ≡ own_of e
own_with_kids e ks = ap own_over (out-roll-Element (record (out-Element e) { kids = ks }))

pub kids_with_kids : (e : Element) (ks : List Element) → kids_of (with_kids e ks) ≡ ks
kids_with_kids e ks = ap (λ f. f.kids) (out-roll-Element (record (out-Element e) { kids = ks }))

pub own_with_role : (e : Element) (r : Role) → own_of (with_role e r) ≡ (record (own_of e) { role = r })
own_with_role e r = ap own_over (out-roll-Element (record (out-Element e) { role = r }))

pub below_with_kids : (t : Bool) (e : Element) (ks : List Element) → faults_below t (with_kids e ks) ≡ faults_among t (Some (own_of e)) [] ks
below_with_kids t e ks = ap₂ (λ o l. faults_among t (Some o) [] l) (own_with_kids e ks) (kids_with_kids e ks)

lists_agree : (x : Payload) → is_list_of x ≡ is_list_payload x
lists_agree p.Capability = refl
lists_agree _ = refl

pub in_list : (e : Element) → stands_in_list (Some (own_of e)) ≡ is_list e
in_list e = lists_agree (out-Element e).payload

-- ---- the step that leads to a child is the one that its faults show

named_step : (n : List ℕ) (i : ℕ) (o : Option (List ℕ)) → is_text n o ≡ true → if_any is_id_short o ≡ true → named_or o i ≡ Name n
named_step n i None e named = absurd (cc)
named_step n i (Some m) e named = ap (λ (b : Bool). if b then Name m else Place i) named ∙ ap (λ (x : List ℕ). Name x) ((bytes_eq-Decides m n).0 e)

by_step : (l : Bool) (s : PathStep) (ks : List Element) (i : ℕ) (k : Element) → place_of l s ks ≡ Some i → slice_get ks i ≡ Some k
    → if_any is_id_short (id_short_of k) ≡ true → (if l then Place i else named_or (id_short_of k) i) ≡ s
unfolding place_of
by_step true (Name n) ks i k e at named = absurd (cc)
by_step true (Place j) ks i k e at named = ap (λ (m : ℕ). Place m) (sym (cond_some (nat_lt j (length ks)) j i e).1)
by_step false (Name n) ks i k e at named =
    let found = position-Some (λ x. is_text n (id_short_of x)) ks i k e in
    let here : get_or ks i k ≡ k = get_or_from_slice_get ks i k k at in
    named_step n i (id_short_of k) (ap (λ x. is_text n (id_short_of x)) (sym here) ∙ found.1) named
by_step false (Place j) ks i k e at named = absurd (cc)

-- where siblings have no faults
pub step_is : (t : Bool) (a : Option Own) (l : Bool) (s : PathStep) (ks : List Element) (c : Child) → stands_in_list a ≡ l → faults_among t a [] ks ≡ []
    → child_by l s ks ≡ Some c → step_to a c.0 (own_of c.1) ≡ s
unfolding broken_at
step_is t a l s ks c lists none is =
    let there = child_by-there l s ks c is in
    let b = before [] ks c.0 in
    let named = named_own (own_of c.1) (none_local (at_root t a b (own_of c.1)) (none_own t a b c.1 (none_at t a [] ks c.0 c.1 none there.1))) in
    ap (λ (x : Bool). if x then Place c.0 else named_or (id_short_of c.1) c.0) lists ∙ by_step l s ks c.0 c.1 there.0 there.1 named

pub child_none : (t : Bool) (a : Option Own) (l : Bool) (s : PathStep) (ks : List Element) (c : Child) → faults_among t a [] ks ≡ []
    → child_by l s ks ≡ Some c → faults_below t c.1 ≡ []
child_none t a l s ks c none is = none_below t a (before [] ks c.0) c.1 (none_at t a [] ks c.0 c.1 none (child_by-there l s ks c is).1)

-- ---- one child changed

-- another one of the same name and the same semanticId has in its place the faults that it has there without siblings
pub changed_alone : (t : Bool) (a : Option Own) (l : Bool) (s : PathStep) (ks : List Element) (c : Child) (w : Element) (p : List PathStep) → stands_in_list a ≡ l
    → faults_among t a [] ks ≡ [] → child_by l s ks ≡ Some c → name_of (own_of w) ≡ name_of (own_of c.1) → semantics_of (own_of w) ≡ semantics_of (own_of c.1)
    → map (behind p) (faults_among t a (map own_of (take c.0 ks)) (w ∷ [])) ≡ map (behind (p ++ s ∷ [])) (flat_map faults_at (sites t a [] (tree_of w)))
changed_alone t a l s ks c w p lists none is name semantics =
    let at = (child_by-there l s ks c is).1 in
    let b = before [] ks c.0 in
    let nothing = break_nothing t a b (own_of c.1) (none_own t a b c.1 (none_at t a [] ks c.0 c.1 none at)) in
    child_alone t a b p s w (break_nothing_of a b (own_of c.1) (own_of w) name semantics nothing)
    (ap (λ n. step_to a n (own_of w)) (so_many_before t a ks c.0 c.1 at)
    ∙ ap (λ n. if stands_in_list a then Place c.0 else named_or n c.0) name ∙ step_is t a l s ks c lists none is)

pub child_changed : (t : Bool) (a : Option Own) (l : Bool) (s : PathStep) (ks : List Element) (c : Child) (w : Element) → stands_in_list a ≡ l
    → faults_among t a [] ks ≡ [] → child_by l s ks ≡ Some c → own_of w ≡ own_of c.1
    → faults_among t a [] (with_child (λ k. w) ks (Some c)) ≡ map (under_fault s) (faults_below t w)
child_changed t a l s ks c w lists none is same =
    one_changed_below t a ks c.0 c.1 w none (child_by-there l s ks c is).1 same
    ∙ ap (λ x. map (under_fault x) (faults_below t w)) (step_is t a l s ks c lists none is)

-- ---- an element changed, to which a path leads

-- e with w for the element o below it has the attributes of e, and below it the faults that w has
record IsChanged (t : Bool) (q : List PathStep) (e w : Element) : Type 0 where
  same : own_of (with_below q e w) ≡ own_of e
  faults : faults_below t (with_below q e w) ≡ map (behind q) (faults_below t w)

among_by : (t : Bool) (a : Option Own) (l : Bool) (s : PathStep) (q : List PathStep) (ks : List Element) (o w : Element) (found : Option Child) → stands_in_list a ≡ l
    → faults_among t a [] ks ≡ [] → child_by l s ks ≡ found → option_and_then (λ (c : Child). element_below q c.1) found ≡ Some o
    → ((k : Element) → faults_below t k ≡ [] → element_below q k ≡ Some o → IsChanged t q k w)
    → faults_among t a [] (with_child (λ k. with_below q k w) ks found) ≡ map (behind (s ∷ q)) (faults_below t w)
among_by t a l s q ks o w None lists none is there below = absurd (cc)
among_by t a l s q ks o w (Some c) lists none is there below =
    let changed = below c.1 (child_none t a l s ks c none is) there in
    child_changed t a l s ks c (with_below q c.1 w) lists none is changed.same
    ∙ ap (map (under_fault s)) changed.faults
    ∙ map-map (under_fault s) (behind q) (faults_below t w)

below_changed : (t : Bool) (q : List PathStep) (e o w : Element) → faults_below t e ≡ [] → element_below q e ≡ Some o → own_of w ≡ own_of o → IsChanged t q e w
unfolding element_below with_below
below_changed t [] e o w none there same =
    let is : o ≡ e = cc in record { same = same ∙ ap own_of is; faults = sym (map-id (faults_below t w)) }
below_changed t (s ∷ q) e o w none there same =
    let found = child_by (is_list e) s (kids_of e) in
    let ks = with_child (λ k. with_below q k w) (kids_of e) found in record {
      same = own_with_kids e ks;
      faults = below_with_kids t e ks
          ∙ among_by t (Some (own_of e)) (is_list e) s q (kids_of e) o w found (in_list e) none refl there (λ k none there. below_changed t q k o w none there same);
    }

pub among_changed : (t : Bool) (a : Option Own) (l : Bool) (s : PathStep) (q : List PathStep) (ks : List Element) (o w : Element) → stands_in_list a ≡ l
    → faults_among t a [] ks ≡ [] → element_among l s q ks ≡ Some o → own_of w ≡ own_of o
    → faults_among t a [] (with_among l s q ks w) ≡ map (behind (s ∷ q)) (faults_below t w)
among_changed t a l s q ks o w lists none there same =
    among_by t a l s q ks o w (child_by l s ks) lists none refl there (λ k none there. below_changed t q k o w none there same)

-- ---- an element taken out

without_none : (t : Bool) (a : Option Own) (ks : List Element) (found : Option Child) → faults_among t a [] ks ≡ [] → faults_among t a [] (without_child ks found) ≡ []
without_none t a ks None none = none
without_none t a ks (Some c) none = one_out t a [] ks c.0 none

deeper_none : (t : Bool) (a : Option Own) (l : Bool) (s : PathStep) (ks : List Element) (inner : Element → List Element) (found : Option Child)
    → stands_in_list a ≡ l → faults_among t a [] ks ≡ [] → child_by l s ks ≡ found
    → ((k : Element) → faults_below t k ≡ [] → faults_among t (Some (own_of k)) [] (inner k) ≡ [])
    → faults_among t a [] (with_child (λ k. with_kids k (inner k)) ks found) ≡ []
deeper_none t a l s ks inner None lists none is below = none
deeper_none t a l s ks inner (Some c) lists none is below =
    child_changed t a l s ks c (with_kids c.1 (inner c.1)) lists none is (own_with_kids c.1 (inner c.1))
    ∙ ap (map (under_fault s)) (below_with_kids t c.1 (inner c.1) ∙ below c.1 (child_none t a l s ks c none is))

pub removed_none : (q : List PathStep) (t : Bool) (a : Option Own) (l : Bool) (s : PathStep) (ks : List Element) → stands_in_list a ≡ l → faults_among t a [] ks ≡ []
    → faults_among t a [] (removed_among l s q ks) ≡ []
unfolding removed_among
removed_none [] t a l s ks lists none = without_none t a ks (child_by l s ks) none
removed_none (u ∷ q) t a l s ks lists none =
    deeper_none t a l s ks (λ k. removed_among (is_list k) u q (kids_of k)) (child_by l s ks) lists none refl
    (λ k none. removed_none q t (Some (own_of k)) (is_list k) u (kids_of k) (in_list k) none)
