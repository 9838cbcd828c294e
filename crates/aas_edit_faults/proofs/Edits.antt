-- The faults of a submodel after an edit.
use Rattle.std.proofs.Common.{◌≡◌, ℕ, true, false, List, [], ◌∷◌, ◌++◌, length, take, map, flat_map, Option, Some, None, slice_set, option_and_then, option_map, refl, sym, ap, ◌∙◌, subst, map-id}
use Rattle.std.specs.Option.{option_map_or}
use Rattle.std.proofs.lemmas.List.{length-map, length_push}
use Rattle.aas_lemmas.proofs.Lists.{no_first, no_second, no_map}
use Rattle.aas_edit_laws.specs.Laws.{at_level}
use Rattle.aas_json_mapping.specs.Whole.{is_whole_element}
use Rattle.aas_model.specs.declared.documents.Submodel.{Submodel}
use Rattle.aas_model.specs.declared.element.Element.{Element}
use Rattle.aas_model.specs.declared.element.Role.{Role}
use Rattle.aas_model.specs.declared.element.Role.TheVariants.{Member}
use Rattle.aas_model.specs.declared.path.Fault.{Fault}
use Rattle.aas_model.specs.declared.path.PathStep.{PathStep}
use Rattle.aas_constraint_rules.specs.Faults.{faults, faults_at, is_template, submodel, HasNoFault}
use Rattle.aas_constraint_rules.specs.Rules.{name_of, semantics_of}
use Rattle.aas_constraint_rules.specs.Sites.{Own, own_of, sites, step_to, tree_of}
use Rattle.aas_path_trees.specs.Children.{id_short_of, kids_of, role_of, is_list, with_kids, with_role}
use Rattle.aas_path_trees.specs.Edits.{role_under_found, with_last, with_last_at}
use Rattle.aas_path_trees.specs.ElementAt.{child_by, element_at, element_below, children_at}
use Rattle.aas_path_trees.specs.WithElement.{with_below, with_among, with_child, with_element}
use Rattle.aas_path_trees.proofs.Paths.{child_by-there, element_among-append, with_among-append, with_element-same}
use Rattle.aas_constraint_laws.specs.Law.{behind}
use Rattle.aas_constraint_laws.proofs.Bridge.{document_alike, own_faults}
use Rattle.aas_edit_laws.proofs.Edits.{insert_keeps_whole, replace_keeps_whole, remove_keeps_whole}
use Rattle.aas_edit_faults.specs.Laws.{child_at, faults_alone, faults_as_child, FaultsOfInserted, FaultsOfReplaced, RemovingKeepsFaultless, EditsKeepValid}
use Rattle.aas_edit_faults.specs.Laws.{InsertedStandsAlone, ListsHaveNoNames, ReplacedStandsAlone}
use Rattle.aas_edit_faults.proofs.Alone.{child_alone}
use Rattle.aas_edit_faults.proofs.NewName.{new_name, names_in_list}
use Rattle.aas_edit_faults.proofs.Level.{faults_among, faults_below}
use Rattle.aas_edit_faults.proofs.Siblings.{one_changed, one_more}
use Rattle.aas_edit_faults.proofs.Walks.{Child, own_with_kids, own_with_role, below_with_kids, in_list, among_changed, changed_alone, removed_none}

-- ---- a submodel with other elements

own_none : (d : Submodel) → HasNoFault (submodel d) → own_faults d ≡ []
unfolding own_faults faults_among
own_none d none = no_first (own_faults d) (faults_among (is_template d.kind) None [] d.kids) none

kids_none : (d : Submodel) → HasNoFault (submodel d) → faults_among (is_template d.kind) None [] d.kids ≡ []
unfolding own_faults faults_among
kids_none d none = no_second (own_faults d) (faults_among (is_template d.kind) None [] d.kids) none

faults_with : (d : Submodel) (ks : List Element) → HasNoFault (submodel d) → faults (record d { kids = ks }) ≡ faults_among (is_template d.kind) None [] ks
unfolding own_faults faults_among
faults_with d ks none = ap (λ l. l ++ faults_among (is_template d.kind) None [] ks) (document_alike d ks ∙ own_none d none)

-- with another element of the same attributes where a path leads
faults_changed : (d : Submodel) (p : List PathStep) (o w : Element) → HasNoFault (submodel d) → element_at d p ≡ Some o → own_of w ≡ own_of o
    → faults (with_element d p w) ≡ map (behind p) (faults_below (is_template d.kind) w)
faults_changed d [] o w none there same = absurd (cc)
faults_changed d (s ∷ q) o w none there same =
    faults_with d (with_among false s q d.kids w) none
    ∙ among_changed (is_template d.kind) None false s q d.kids o w refl (kids_none d none) there same

found_none : (d : Submodel) (p : List PathStep) (o : Element) → HasNoFault (submodel d) → element_at d p ≡ Some o → faults_below (is_template d.kind) o ≡ []
found_none d p o none there =
    no_map (behind p) (faults_below (is_template d.kind) o) (sym (faults_changed d p o o none there refl) ∙ ap faults (with_element-same d p o there) ∙ none)

-- ---- the faults of a child in its place

abbrev as_child : Submodel → List PathStep → Option Own → List Own → Element → List Fault
as_child d p a b e = map (behind p) (faults_among (is_template d.kind) a b (e ∷ []))

as_child_is : (d : Submodel) (p : List PathStep) (ks : List Element) (e : Element)
    → as_child d p (option_map own_of (element_at d p)) (map own_of ks) e ≡ faults_as_child d p ks e
unfolding faults_among
as_child_is d p ks e = refl

-- behind the steps that lead to an element o
under_found : (d : Submodel) (s : PathStep) (q : List PathStep) (o : Element) (n : List Element → List Element) (e : Element) → element_at d (s ∷ q) ≡ Some o
    → as_child d (s ∷ q) (Some (own_of o)) (map own_of (n (kids_of o))) e ≡ faults_as_child d (s ∷ q) (n (children_at d (s ∷ q))) e
under_found d s q o n e there =
    ap (λ f. as_child d (s ∷ q) (option_map own_of f) (map own_of (n (option_map_or kids_of f []))) e) (sym there)
    ∙ as_child_is d (s ∷ q) (n (children_at d (s ∷ q))) e

-- ---- inserting

under_inserted : (d : Submodel) (s : PathStep) (q : List PathStep) (e o : Element) (r : Role) → HasNoFault (submodel d) → element_at d (s ∷ q) ≡ Some o
    → faults (with_element d (s ∷ q) (with_last o e r)) ≡ faults_as_child d (s ∷ q) (children_at d (s ∷ q)) (with_role e r)
under_inserted d s q e o r none there =
    let t = is_template d.kind in
    let ks = kids_of o ++ with_role e r ∷ [] in
    faults_changed d (s ∷ q) o (with_last o e r) none there (own_with_kids o ks)
    ∙ ap (map (behind (s ∷ q))) (below_with_kids t o ks ∙ one_more t (Some (own_of o)) (kids_of o) (with_role e r) (found_none d (s ∷ q) o none there))
    ∙ under_found d s q o (λ ks. ks) (with_role e r) there

found_inserted : (d : Submodel) (s : PathStep) (q : List PathStep) (e : Element) (r : Role) (found : Option Element) → HasNoFault (submodel d)
    → element_at d (s ∷ q) ≡ found → role_under_found found e ≡ Some r
    → faults (option_map_or (with_last_at d (s ∷ q) e found) (role_under_found found e) d) ≡ faults_as_child d (s ∷ q) (children_at d (s ∷ q)) (with_role e r)
found_inserted d s q e r None none there role = absurd (cc)
found_inserted d s q e r (Some o) none there role =
    ap (λ x. faults (option_map_or (with_last_at d (s ∷ q) e (Some o)) x d)) role ∙ under_inserted d s q e o r none there

pub faults_of_inserted : FaultsOfInserted
faults_of_inserted d [] e r none role =
    let is : Member ≡ r = cc in
    let w = with_role e Member in
    faults_with d (d.kids ++ w ∷ []) none
    ∙ one_more (is_template d.kind) None d.kids w (kids_none d none)
    ∙ sym (map-id (faults_among (is_template d.kind) None (map own_of d.kids) (w ∷ [])))
    ∙ as_child_is d [] d.kids w
    ∙ ap (λ x. faults_as_child d [] d.kids (with_role e x)) is
faults_of_inserted d (s ∷ q) e r none role = found_inserted d s q e r (element_at d (s ∷ q)) none refl role

-- ---- replacing

-- the element to which one more step leads
record StandsAt (d : Submodel) (p : List PathStep) (s : PathStep) (i : ℕ) (o : Element) : Type 0 where
  there : element_at d (p ++ s ∷ []) ≡ Some o
  -- with w in its place
  changed : (w : Element) → HasNoFault (submodel d) → name_of (own_of w) ≡ name_of (own_of o) → semantics_of (own_of w) ≡ semantics_of (own_of o)
      → faults (with_element d (p ++ s ∷ []) w) ≡ faults_as_child d p (take i (children_at d p)) w
  alone : (w : Element) → HasNoFault (submodel d) → name_of (own_of w) ≡ name_of (own_of o) → semantics_of (own_of w) ≡ semantics_of (own_of o)
      → faults_as_child d p (take i (children_at d p)) w ≡ faults_alone d p s w

-- the child of an element
below_one : (s : PathStep) (x : Element) (i : ℕ) (o : Element) → child_by (is_list x) s (kids_of x) ≡ Some (i, o) → element_below (s ∷ []) x ≡ Some o
unfolding element_below
below_one s x i o is = ap (option_and_then (λ (c : Child). Some c.1)) is

with_below_one : (s : PathStep) (x : Element) (i : ℕ) (o w : Element) → child_by (is_list x) s (kids_of x) ≡ Some (i, o) → with_below (s ∷ []) x w ≡ with_kids x (slice_set (kids_of x) i w)
unfolding with_below
with_below_one s x i o w is = ap (λ f. with_kids x (with_child (λ k. w) (kids_of x) f)) is

first_stands : (d : Submodel) (s : PathStep) (i : ℕ) (o : Element) → child_by false s d.kids ≡ Some (i, o) → StandsAt d [] s i o
unfolding element_below with_below
first_stands d s i o is = record {
  there = ap (option_and_then (λ (c : Child). Some c.1)) is;
  changed = λ w none name semantics.
      let t = is_template d.kind in
      ap (λ f. faults (record d { kids = with_child (λ k. w) d.kids f })) is
      ∙ faults_with d (slice_set d.kids i w) none
      ∙ one_changed t None [] d.kids i o w (kids_none d none) (child_by-there false s d.kids (i, o) is).1 name semantics
      ∙ sym (map-id (faults_among t None (map own_of (take i d.kids)) (w ∷ [])))
      ∙ as_child_is d [] (take i d.kids) w;
  alone = λ w none name semantics.
      sym (as_child_is d [] (take i d.kids) w)
      ∙ changed_alone (is_template d.kind) None false s d.kids (i, o) w [] refl (kids_none d none) is name semantics;
}

later_stands : (d : Submodel) (u : PathStep) (q : List PathStep) (s : PathStep) (i : ℕ) (x o : Element) → element_at d (u ∷ q) ≡ Some x
    → child_by (is_list x) s (kids_of x) ≡ Some (i, o) → StandsAt d (u ∷ q) s i o
later_stands d u q s i x o found is = record {
  there = element_among-append false u q (s ∷ []) d.kids ∙ ap (option_and_then (element_below (s ∷ []))) found ∙ below_one s x i o is;
  changed = λ w none name semantics.
      let t = is_template d.kind in
      let ks = slice_set (kids_of x) i w in
      ap (λ l. faults (record d { kids = l })) (with_among-append false u q (s ∷ []) x w d.kids found)
      ∙ ap (λ y. faults (with_element d (u ∷ q) y)) (with_below_one s x i o w is)
      ∙ faults_changed d (u ∷ q) x (with_kids x ks) none found (own_with_kids x ks)
      ∙ ap (map (behind (u ∷ q)))
      (below_with_kids t x ks
      ∙ one_changed t (Some (own_of x)) [] (kids_of x) i o w (found_none d (u ∷ q) x none found) (child_by-there (is_list x) s (kids_of x) (i, o) is).1 name semantics)
      ∙ under_found d u q x (take i) w found;
  alone = λ w none name semantics.
      let t = is_template d.kind in
      sym (under_found d u q x (take i) w found)
      ∙ changed_alone t (Some (own_of x)) (is_list x) s (kids_of x) (i, o) w (u ∷ q) (in_list x) (found_none d (u ∷ q) x none found) is name semantics
      ∙ ap (λ f. map (behind ((u ∷ q) ++ s ∷ [])) (flat_map faults_at (sites t (option_map own_of f) [] (tree_of w)))) (sym found);
}

found_stands : (d : Submodel) (u : PathStep) (q : List PathStep) (s : PathStep) (i : ℕ) (o : Element) (found : Option Element) → element_at d (u ∷ q) ≡ found
    → option_and_then (λ x. child_by (is_list x) s (kids_of x)) found ≡ Some (i, o) → StandsAt d (u ∷ q) s i o
found_stands d u q s i o None there is = absurd (cc)
found_stands d u q s i o (Some x) there is = later_stands d u q s i x o there is

stands : (d : Submodel) (p : List PathStep) (s : PathStep) (i : ℕ) (o : Element) → child_at d p s ≡ Some (i, o) → StandsAt d p s i o
stands d [] s i o is = first_stands d s i o is
stands d (u ∷ q) s i o is = found_stands d u q s i o (element_at d (u ∷ q)) refl is

pub faults_of_replaced : FaultsOfReplaced
faults_of_replaced d p s i o e none is name semantics =
    let at = stands d p s i o is in
    let w = with_role e (role_of o) in
    let own = own_with_role e (role_of o) in
    ap (λ f. faults (option_map_or (λ o. with_element d (p ++ s ∷ []) (with_role e (role_of o))) f d)) at.there
    ∙ at.changed w none (ap name_of own ∙ name) (ap semantics_of own ∙ semantics)

-- ---- without siblings

pub inserted_stands_alone : InsertedStandsAlone
inserted_stands_alone d p e name semantics =
    let a = option_map own_of (element_at d p) in
    let ks = children_at d p in
    sym (as_child_is d p ks e)
    ∙ child_alone (is_template d.kind) a (map own_of ks) p (step_to a (length ks) (own_of e)) e (record { name = new_name ks (id_short_of e) name; semantics = semantics })
    (ap (λ n. step_to a n (own_of e)) (length-map ks own_of))

pub lists_have_no_names : ListsHaveNoNames
lists_have_no_names d p o n none there lists =
    names_in_list (is_template d.kind) (Some (own_of o)) (kids_of o) n (in_list o ∙ lists) (found_none d p o none there)

pub replaced_stands_alone : ReplacedStandsAlone
replaced_stands_alone d p s i o e none is name semantics = (stands d p s i o is).alone e none name semantics

-- ---- removing

pub removing_keeps_faultless : RemovingKeepsFaultless
removing_keeps_faultless d [] none = none
removing_keeps_faultless d (s ∷ q) none = faults_with d _ none ∙ removed_none q (is_template d.kind) None false s d.kids refl (kids_none d none)

-- ---- valid submodels

pub edits_keep_valid : EditsKeepValid
edits_keep_valid = record {
  inserted = λ d p e r valid role whole none. record {
    whole = insert_keeps_whole d p e valid.whole whole;
    faultless = faults_of_inserted d p e r valid.faultless role ∙ none;
  };
  replaced = λ d p s i o e valid is name semantics whole fits none. record {
    whole = replace_keeps_whole d (p ++ s ∷ []) e o valid.whole (subst (λ (n : ℕ). is_whole_element (at_level n) e ≡ true) (sym (length_push p s)) whole) (stands d p s i o is).there fits;
    faultless = faults_of_replaced d p s i o e valid.faultless is name semantics ∙ none;
  };
  removed = λ d p valid. record { whole = remove_keeps_whole d p valid.whole; faultless = removing_keeps_faultless d p valid.faultless };
}
