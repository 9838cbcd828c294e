-- From the paths of a submodel to places by numbers, and the law of place for submodels.
use Rattle.std.proofs.Common.{◌≡◌, ℕ, zero, suc, Bool, true, false, List, [], ◌∷◌, ◌++◌, length, map, flat_map, get_or, slice_get, slice_set, Option, Some, None, option_map, option_and_then, refl, sym, ap, ap₂, ◌∙◌}
use Rattle.std.specs.Prelude.{if◌then◌else◌, nat_lt}
use Rattle.std.proofs.lemmas.List.Quantifiers.{position-Some}
use Rattle.std.proofs.lemmas.Option.{get_or_from_slice_get, cond_some}
use Rattle.aas_model.specs.declared.documents.Submodel.{Submodel}
use Rattle.aas_model.specs.declared.element.Element.{Element}
use Rattle.aas_model.specs.declared.payload.Payload.{Payload}
use Rattle.aas_model.specs.declared.payload.Payload.TheVariants as p
use Rattle.aas_model.specs.declared.path.Fault.{Fault}
use Rattle.aas_model.specs.declared.path.PathStep.{PathStep}
use Rattle.aas_model.specs.declared.path.PathStep.TheVariants.{Name, Place}
use Rattle.aas_constraint_rules.specs.Decided.{is_id_short}
use Rattle.aas_reference.specs.Rules.{if_any}
use Rattle.aas_constraint_rules.specs.Attributes.{seen_of_submodel}
use Rattle.aas_constraint_rules.specs.Faults.{fault, faults, faults_at, document_faults, submodel_rules, is_template, submodel, HasNoFault}
use Rattle.aas_constraint_rules.specs.Sites.{Own, own_of, Tree, Trees, node, none, first, root, sites_among, step_to, stands_in_list, named_or, tree_of, trees, is_list as is_list_of}
use Rattle.aas_path_trees.specs.Children.{kids_of, id_short_of, is_list, is_list_payload}
use Rattle.aas_path_trees.specs.ElementAt.{is_text, place_of, child_by, element_below, element_at}
use Rattle.aas_path_trees.specs.WithElement.{with_child as with_child_by, with_below, with_element}
use Rattle.aas_path_trees.proofs.Paths.{child_by-there}
use Rattle.aas_path_trees.proofs.OnePath.{text_is}
use Rattle.aas_lemmas.proofs.Lists.{no_first, no_second, no_map}
use Rattle.aas_constraint_rules.proofs.Elements.{tree_out}
use Rattle.aas_constraint_laws.specs.Law.{behind, local_faults}
use Rattle.aas_constraint_laws.specs.Values.{DifferInValues}
use Rattle.aas_constraint_laws.proofs.Bare.{tree_made, same_bare}
use Rattle.aas_constraint_laws.proofs.Changed.{child, with_child, tree_at, with_tree, path_by, path_to, local_here, local_among, free, free_among, place_law}
use Rattle.aas_constraint_laws.proofs.PathNames.{named_own}
use Rattle.aas_constraint_laws.proofs.Places.{locally_broken, all_none_local}

abbrev Child : Type 0
Child = ℕ × Element

-- ---- a child, by its step

named_step : (i : ℕ) (n : List ℕ) (name : Option (List ℕ)) → name ≡ Some n → if_any is_id_short name ≡ true → Name n ≡ named_or name i
named_step i n name is named = sym (ap (λ o. named_or o i) is ∙ ap (λ (b : Bool). if b then Name n else Place i) (sym (ap (if_any is_id_short) is) ∙ named))

-- the step that leads to a child is the one that a fault shows
step_is : (l : Bool) (s : PathStep) (ks : List Element) (i : ℕ) (k : Element) → place_of l s ks ≡ Some i → slice_get ks i ≡ Some k → if_any is_id_short (id_short_of k) ≡ true
    → s ≡ (if l then Place i else named_or (id_short_of k) i)
unfolding place_of
step_is true (Name n) ks i k e at named = absurd (cc)
step_is true (Place j) ks i k e at named = ap (λ (m : ℕ). Place m) (cond_some (nat_lt j (length ks)) j i e).1
step_is false (Name n) ks i k e at named =
    let found = position-Some (λ x. is_text n (id_short_of x)) ks i k e in
    let here : get_or ks i k ≡ k = get_or_from_slice_get ks i k k at in
    named_step i n (id_short_of k) (text_is n (id_short_of k) (ap (λ x. is_text n (id_short_of x)) (sym here) ∙ found.1)) named
step_is false (Place j) ks i k e at named = absurd (cc)

child_tree : (ks : List Element) (i : ℕ) (k : Element) → slice_get ks i ≡ Some k → child i (trees (map tree_of ks)) ≡ Some (tree_of k)
child_tree [] i k e = absurd (cc)
child_tree (x ∷ ks) zero k e = ap (option_map tree_of) e
child_tree (x ∷ ks) (suc i) k e = child_tree ks i k e

set_tree : (ks : List Element) (i : ℕ) (k w : Element) (f : Tree → Tree) → slice_get ks i ≡ Some k → f (tree_of k) ≡ tree_of w
    → trees (map tree_of (slice_set ks i w)) ≡ with_child f i (trees (map tree_of ks))
set_tree [] i k w f e is = absurd (cc)
set_tree (x ∷ ks) zero k w f e is = let same : x ≡ k = cc in ap (λ t. first t (trees (map tree_of ks))) (sym is ∙ ap (λ y. f (tree_of y)) (sym same))
set_tree (x ∷ ks) (suc i) k w f e is = ap (first (tree_of x)) (set_tree ks i k w f e is)

-- ---- an element, by its path

-- the numbers of the children to which a path leads
abbrev number_by : (Element → List ℕ) → Option Child → List ℕ
number_by f None = []
number_by f (Some c) = c.0 ∷ f c.1

unfoldable numbers_to : List PathStep → Element → List ℕ
numbers_to [] e = []
numbers_to (s ∷ p) e = number_by (numbers_to p) (child_by (is_list e) s (kids_of e))

-- the tree there
there_at : (p : List PathStep) (ks : List Element) (k : Element) → ((e : Element) → element_below p e ≡ Some k → tree_at (numbers_to p e) (tree_of e) ≡ Some (tree_of k))
    → (o : Option Child) → ((c : Child) → o ≡ Some c → slice_get ks c.0 ≡ Some c.1) → option_and_then (λ c. element_below p c.1) o ≡ Some k
    → (t : Tree) (own : Own) → t ≡ node own (trees (map tree_of ks)) → tree_at (number_by (numbers_to p) o) t ≡ Some (tree_of k)
unfolding tree_at
there_at p ks k h None at e t own is = absurd (cc)
there_at p ks k h (Some c) at e t own is =
    ap (tree_at (c.0 ∷ numbers_to p c.1)) is ∙ ap (option_and_then (tree_at (numbers_to p c.1))) (child_tree ks c.0 c.1 (at c refl)) ∙ h c.1 e

there : (p : List PathStep) (e k : Element) → element_below p e ≡ Some k → tree_at (numbers_to p e) (tree_of e) ≡ Some (tree_of k)
unfolding element_below tree_at numbers_to
there [] e k is = ap (option_map tree_of) is
there (s ∷ p) e k is =
    there_at p (kids_of e) k (λ x. there p x k) (child_by (is_list e) s (kids_of e)) (λ c o. (child_by-there (is_list e) s (kids_of e) c o).1) is (tree_of e) (own_of e) (tree_out e)

-- the tree with another in its place
put_at : (p : List PathStep) (ks : List Element) (k w : Element) → ((e : Element) → element_below p e ≡ Some k → tree_of (with_below p e w) ≡ with_tree (numbers_to p e) (tree_of w) (tree_of e))
    → (o : Option Child) → ((c : Child) → o ≡ Some c → slice_get ks c.0 ≡ Some c.1) → option_and_then (λ c. element_below p c.1) o ≡ Some k
    → (own : Own) → node own (trees (map tree_of (with_child_by (λ x. with_below p x w) ks o))) ≡ with_tree (number_by (numbers_to p) o) (tree_of w) (node own (trees (map tree_of ks)))
unfolding with_tree
put_at p ks k w h None at e own = absurd (cc)
put_at p ks k w h (Some c) at e own = ap (node own) (set_tree ks c.0 c.1 (with_below p c.1 w) (with_tree (numbers_to p c.1) (tree_of w)) (at c refl) (sym (h c.1 e)))

put : (p : List PathStep) (e k w : Element) → element_below p e ≡ Some k → tree_of (with_below p e w) ≡ with_tree (numbers_to p e) (tree_of w) (tree_of e)
unfolding element_below with_below with_tree numbers_to
put [] e k w is = refl
put (s ∷ p) e k w is =
    let o = child_by (is_list e) s (kids_of e) in
    tree_made (own_of e) (with_child_by (λ x. with_below p x w) (kids_of e) o)
    ∙ put_at p (kids_of e) k w (λ x. put p x k w) o (λ c h. (child_by-there (is_list e) s (kids_of e) c h).1) is (own_of e)
    ∙ ap (with_tree (number_by (numbers_to p) o) (tree_of w)) (sym (tree_out e))

-- ---- the path that a fault shows

named_tree : (x : Element) → local_here (tree_of x) ≡ [] → if_any is_id_short (id_short_of x) ≡ true
unfolding local_here
named_tree x e =
    let own : map (fault []) (locally_broken (own_of x)) ++ local_among (Some (own_of x)) 0 (trees (map tree_of (kids_of x))) ≡ [] = sym (ap local_here (tree_out x)) ∙ e in
    named_own (own_of x) (no_map (fault []) (locally_broken (own_of x)) (no_first (map (fault []) (locally_broken (own_of x))) _ own))

clean_child : (a : Option Own) (n i : ℕ) (ts : Trees) (t : Tree) → local_among a n ts ≡ [] → child i ts ≡ Some t → local_here t ≡ []
unfolding local_here
clean_child a n i none t e is = absurd (cc)
clean_child a n zero (first u ts) t e is = let same : u ≡ t = cc in ap local_here (sym same) ∙ no_map _ (local_here u) (no_first _ (local_among a (suc n) ts) e)
clean_child a n (suc i) (first u ts) t e is = clean_child a (suc n) i ts t (no_second _ (local_among a (suc n) ts) e) is

lists_agree : (o : Payload) → is_list_of o ≡ is_list_payload o
lists_agree p.Capability = refl
lists_agree _ = refl

-- the path of a child and below it
path_of_child : (l : Bool) (a : Option Own) (s : PathStep) (p : List PathStep) (ks : List Element) (c : Child) → stands_in_list a ≡ l → place_of l s ks ≡ Some c.0 → slice_get ks c.0 ≡ Some c.1
    → local_here (tree_of c.1) ≡ [] → path_to (numbers_to p c.1) (tree_of c.1) ≡ p
    → path_by (λ k. step_to a c.0 (root k) ∷ path_to (numbers_to p c.1) k) (child c.0 (trees (map tree_of ks))) ≡ s ∷ p
path_of_child l a s p ks c is place at clean more =
    let name = id_short_of c.1 in
    let step : step_to a c.0 (root (tree_of c.1)) ≡ s =
    ap (λ t. step_to a c.0 (root t)) (tree_out c.1) ∙ ap (λ (b : Bool). if b then Place c.0 else named_or name c.0) is ∙ sym (step_is l s ks c.0 c.1 place at (named_tree c.1 clean)) in
    ap (path_by (λ k. step_to a c.0 (root k) ∷ path_to (numbers_to p c.1) k)) (child_tree ks c.0 c.1 at) ∙ ap₂ (λ x y. x ∷ y) step more

path_at : (l : Bool) (own : Own) (s : PathStep) (p : List PathStep) (ks : List Element) (k : Element) → is_list_of own.payload ≡ l
    → ((x : Element) → element_below p x ≡ Some k → local_here (tree_of x) ≡ [] → path_to (numbers_to p x) (tree_of x) ≡ p)
    → (o : Option Child) → ((c : Child) → o ≡ Some c → (place_of l s ks ≡ Some c.0) × (slice_get ks c.0 ≡ Some c.1))
    → option_and_then (λ c. element_below p c.1) o ≡ Some k → local_among (Some own) 0 (trees (map tree_of ks)) ≡ []
    → path_to (number_by (numbers_to p) o) (node own (trees (map tree_of ks))) ≡ s ∷ p
unfolding path_to
path_at l own s p ks k is h None at e clean = absurd (cc)
path_at l own s p ks k is h (Some c) at e clean =
    let here = at c refl in
    let clean_here : local_here (tree_of c.1) ≡ [] = clean_child (Some own) 0 c.0 (trees (map tree_of ks)) (tree_of c.1) clean (child_tree ks c.0 c.1 here.1) in
    path_of_child l (Some own) s p ks c is here.0 here.1 clean_here (h c.1 e clean_here)

path_there : (p : List PathStep) (e k : Element) → element_below p e ≡ Some k → local_here (tree_of e) ≡ [] → path_to (numbers_to p e) (tree_of e) ≡ p
unfolding element_below path_to numbers_to local_here
path_there [] e k is clean = refl
path_there (s ∷ p) e k is clean =
    let o = child_by (is_list e) s (kids_of e) in
    let all : map (fault []) (locally_broken (own_of e)) ++ local_among (Some (own_of e)) 0 (trees (map tree_of (kids_of e))) ≡ [] = sym (ap local_here (tree_out e)) ∙ clean in
    ap (path_to (number_by (numbers_to p) o)) (tree_out e)
    ∙ path_at (is_list e) (own_of e) s p (kids_of e) k (lists_agree (own_of e).payload) (λ x. path_there p x k) o (λ c h. child_by-there (is_list e) s (kids_of e) c h) is
    (no_second (map (fault []) (locally_broken (own_of e))) _ all)

-- ---- the law

-- the faults of a submodel itself are no matter of its elements
unfoldable pub own_faults : Submodel → List Fault
own_faults d = document_faults submodel_rules (seen_of_submodel d).references d

pub document_alike : (d : Submodel) (ks : List Element) → own_faults (record d { kids = ks }) ≡ own_faults d
unfolding own_faults
document_alike d ks = refl

law_by : (d : Submodel) (s : PathStep) (p : List PathStep) (e u : Element) (o : Option Child) → ((c : Child) → o ≡ Some c → (place_of false s d.kids ≡ Some c.0) × (slice_get d.kids c.0 ≡ Some c.1))
    → option_and_then (λ c. element_below p c.1) o ≡ Some e → DifferInValues e u → HasNoFault (submodel d)
    → faults (record d { kids = with_child_by (λ k. with_below p k u) d.kids o }) ≡ map (behind (s ∷ p)) (local_faults u)
unfolding own_faults
law_by d s p e u None at is same valid = absurd (cc)
law_by d s p e u (Some c) at is same valid =
    let t = is_template d.kind in
    let ts = trees (map tree_of d.kids) in
    let q = numbers_to p c.1 in
    let ks = slice_set d.kids c.0 (with_below p c.1 u) in
    let here = at c refl in
    let own_none : own_faults d ≡ [] = no_first (own_faults d) _ valid in
    let clean : flat_map faults_at (sites_among t None [] ts) ≡ [] = no_second (own_faults d) _ valid in
    let locally : local_among None 0 ts ≡ [] = sym (free_among t None [] ts) ∙ all_none_local (sites_among t None [] ts) clean in
    let clean_here : local_here (tree_of c.1) ≡ [] = clean_child None 0 c.0 ts (tree_of c.1) locally (child_tree d.kids c.0 c.1 here.1) in
    let stands : option_and_then (tree_at q) (child c.0 ts) ≡ Some (tree_of e) = ap (option_and_then (tree_at q)) (child_tree d.kids c.0 c.1 here.1) ∙ there p c.1 e is in
    ap (λ l. l ++ flat_map faults_at (sites_among t None [] (trees (map tree_of ks)))) (document_alike d ks ∙ own_none)
    ∙ ap (λ w. flat_map faults_at (sites_among t None [] w)) (set_tree d.kids c.0 c.1 (with_below p c.1 u) (with_tree q (tree_of u)) here.1 (sym (put p c.1 e u is)))
    ∙ place_law t ts c.0 q (tree_of e) (tree_of u) stands (same_bare e u same) clean
    ∙ ap₂ (λ w l. map (behind w) l) (path_of_child false None s p d.kids c refl here.0 here.1 clean_here (path_there p c.1 e is clean_here)) (sym (free true None [] (tree_of u)))

pub law : (d : Submodel) (p : List PathStep) (e u : Element) → HasNoFault (submodel d) → element_at d p ≡ Some e → DifferInValues e u → faults (with_element d p u) ≡ map (behind p) (local_faults u)
law d [] e u valid is same = absurd (cc)
law d (s ∷ p) e u valid is same = law_by d s p e u (child_by false s d.kids) (λ c h. child_by-there false s d.kids c h) is same valid
