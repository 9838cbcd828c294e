-- What the insertion of an element comes to, where it is accepted by its place.
use Rattle.std.proofs.Common.{◌≡◌, ⊎_elim, ℕ, ◌+◌, ◌≤◌, Bool, true, false, List, [], ◌∷◌, ◌++◌, length, map as each}
use Rattle.std.proofs.Common.{flat_map, Option, Some, None, option_and_then, inl, inr, refl, sym, ap, ap₂, ◌∙◌, arith}
use Rattle.std.proofs.lemmas.Bool.Decides.{nat_tests}
use Rattle.std.specs.Prelude.{◌&&◌, IsSome, is_some, nat_lt, option_map}
use Rattle.std.specs.Option.{option_map_or, option_or}
use Rattle.aas_command.specs.declared.refusal.Refusal.TheVariants.{Conflict, NotAContainer}
use Rattle.aas_constraint_laws.specs.Law.{behind}
use Rattle.aas_constraint_laws.specs.Valid.{IsValid}
use Rattle.aas_constraint_rules.specs.Faults.{broken, fault, faults_at, submodel}
use Rattle.aas_constraint_rules.specs.Rules.{agree, first_some, is_repeat, semantics_of}
use Rattle.aas_constraint_rules.specs.Sites.{Own, Site, own_of, sites, sites_among, stands_in_list, step_to, tree_of}
use Rattle.aas_constraint_rules.specs.Sites.{trees, under}
use Rattle.aas_edit_faults.specs.Laws.{EditsCount, EditsKeepValid, InsertedStandsAlone, IsNewName, faults_as_child}
use Rattle.aas_edit_laws.specs.Laws.{at_level}
use Rattle.aas_json_mapping.specs.Whole.{is_whole_element}
use Rattle.aas_lemmas.proofs.Lists.{no_first, no_map, no_second}
use Rattle.aas_lemmas.proofs.Truth.{None-from_is_some}
use Rattle.aas_model.specs.declared.common.Common.{Common}
use Rattle.aas_model.specs.declared.documents.Submodel.{Submodel}
use Rattle.aas_model.specs.declared.element.Element.{Element, out-Element}
use Rattle.aas_model.specs.declared.element.Role.{Role}
use Rattle.aas_model.specs.declared.path.Fault.{Fault}
use Rattle.aas_model.specs.declared.path.PathStep.{PathStep}
use Rattle.aas_model.specs.declared.reference.Reference.{Reference}
use Rattle.aas_path_trees.specs.Children.{id_short_of, with_role}
use Rattle.aas_path_trees.specs.Edits.{if_fits, inserted, role_at, role_under_found, role_within}
use Rattle.aas_path_trees.specs.ElementAt.{element_at, place_named, children_at}
use Rattle.aas_path_trees.specs.Patched.{kinds, element_count}
use Rattle.aas_step.specs.Causes.{Cause, first_of, insert_causes, is_container, is_named_among, unless, when}
use Rattle.aas_store.specs.Reads as reads
use Rattle.aas_repo_documents.specs.Accepted.{IsAccepted}
use Rattle.aas_repo_elements.proofs.Placed.{common_with_role, none_alone}
use Rattle.aas_repo_elements.specs.Placing.{IsAbove, IsFaultless, IsLead, IsParent, own_of_parent, role_below}
use Rattle.aas_repo_elements.specs.declared.placing.Parent.{Parent}

-- ---- the first semanticId

first_is : (ks : List Element) → reads.first_semantic_id ks ≡ first_some (each semantics_of (each own_of ks))
first_is [] = refl
first_is (k ∷ ks) = by_own (semantics_of (own_of k)) (first_is ks)
  where
    by_own : (z : Option Reference) → reads.first_semantic_id ks ≡ first_some (each semantics_of (each own_of ks))
        → option_or z (reads.first_semantic_id ks) ≡ first_some (z ∷ each semantics_of (each own_of ks))
    by_own None more = more
    by_own (Some r) more = refl

pub in_list : (s : Submodel) (p : List PathStep) (a : Option Own) (e : Element) (lead : Option Reference)
    → stands_in_list a ≡ true
    → lead ≡ reads.first_semantic_id (children_at s p) → IsLead p a e lead s
in_list s p a e lead list is = inl (list, is ∙ first_is (children_at s p))

-- ---- the faults of a last child

under_none : (s : PathStep) (xs : List Site)
    → flat_map faults_at xs ≡ [] → flat_map faults_at (each (under s) xs ++ []) ≡ []
under_none s [] none = refl
under_none s (x ∷ xs) none =
    ap₂ (λ (ns : List ℕ) (l : List Fault). each (fault (s ∷ x.path)) ns ++ l)
    (no_map (fault x.path) (broken x) (no_first (faults_at x) (flat_map faults_at xs) none))
    (under_none s xs (no_second (faults_at x) (flat_map faults_at xs) none))

among_none : (t : Bool) (a : Option Own) (b : List Own) (e : Element)
    → flat_map faults_at (sites t a b (tree_of e)) ≡ []
    → flat_map faults_at (sites_among t a b (trees (tree_of e ∷ []))) ≡ []
unfolding sites sites_among
among_none t a b e none = under_none _ (sites t a b (tree_of e)) none

new_name : (ks : List Element) (n : Option (List ℕ)) → is_named_among n ks ≡ false → IsNewName ks n
new_name ks None new = tt
new_name ks (Some n) new = None-from_is_some (place_named n ks) new

agrees : (x z : Option Reference) → z ≡ None → agree x z ≡ true
agrees None z is = refl
agrees (Some r) z is = ap (agree (Some r)) is

none_as_child : (s : Submodel) (p : List PathStep) (x : Parent) (e : Element) (lead : Option Reference)
    → InsertedStandsAlone → IsParent p x s
    → is_named_among (id_short_of e) (children_at s p) ≡ false
    → (stands_in_list (own_of_parent x) ≡ true → id_short_of e ≡ None) → IsLead p (own_of_parent x) e lead s
    → IsFaultless x lead e → faults_as_child s p (children_at s p) e ≡ []
none_as_child s p x e lead law parent new unnamed lead_is faultless =
    let ks = children_at s p in
    ⊎_elim
    (λ list.
    let b = each own_of ks in
    let none = faultless b (ap (is_repeat b) (unnamed list.0)) list.1 in
    ap (λ (fs : List Fault). each (behind p) fs)
    (ap₂ (λ (u : Bool) (o : Option Own). flat_map faults_at (sites_among u o b (trees (tree_of e ∷ []))))
    (sym parent.template) parent.above.own
    ∙ among_none x.in_template (own_of_parent x) b e none))
    (λ nothing.
    law s p e (new_name ks (id_short_of e) new)
    (λ list. agrees (first_some (each semantics_of (each own_of ks)))
    (semantics_of (own_of e)) (nothing.1 (ap stands_in_list (sym parent.above.own) ∙ list)))
    ∙ none_alone s p
    (step_to (option_map own_of (element_at s p)) (length ks) (own_of e)) x e lead parent faultless nothing.0)
    lead_is

-- ---- the insertion

-- the role of a new child
role_is : (s : Submodel) (p : List PathStep) (a : Option Own) (e : Element)
    → IsAbove p a s → role_at s p e ≡ role_below a e
role_is s [] a e above = ap (λ (a : Option Own). role_below a e) above.own
role_is s (t ∷ q) a e above = by_found (element_at s (t ∷ q)) above.there above.own
  where
    by_found : (found : Option Element)
        → is_some found ≡ true → option_map own_of found ≡ a → role_under_found found e ≡ role_below a e
    by_found None there own = absurd (cc)
    by_found (Some o) there own = ap (λ (a : Option Own). role_below a e) own

within : (n k m : ℕ) → n ≡ k + m → k + m ≤ 65536 → nat_lt 65536 n ≡ false
within n k m is few = grind (arith, nat_tests)

takes_children : (s : Submodel) (p : List PathStep) (e : Element) (r : Role)
    → role_at s p e ≡ Some r → is_container s p ≡ true
takes_children s [] e r role = refl
takes_children s (t ∷ q) e r role = by_found (element_at s (t ∷ q)) role
  where
    by_role : (o : Option Role) → option_and_then (if_fits e) o ≡ Some r → is_some o ≡ true
    by_role None is = absurd (cc)
    by_role (Some k) is = refl

    by_found : (found : Option Element) → role_under_found found e ≡ Some r
        → option_map_or (λ o. is_some (role_within (out-Element o).payload)) found false ≡ true
    by_found None is = absurd (cc)
    by_found (Some o) is = by_role (role_within (out-Element o).payload) is

no_conflict : (x z : Cause) (b named : Bool)
    → b ≡ true → first_of (x ∷ when (b && named) Conflict ∷ z ∷ []) ≡ None → named ≡ false
no_conflict (Some r) z b named takes none = absurd (cc)
no_conflict None z false named takes none = absurd (cc)
no_conflict None z true true takes none = absurd (cc)
no_conflict None z true false takes none = refl

-- no child has the name of what comes in, in whatever role
named_as : (e child : Element) (r : Role) → child ≡ with_role e r → id_short_of child ≡ id_short_of e
named_as e child r same = ap id_short_of same ∙ ap (λ (c : Common). c.id_short) (common_with_role e r)

-- the role says nothing of what leads an element
lead_as : (s : Submodel) (p : List PathStep) (a : Option Own) (e child : Element) (r : Role) (lead : Option Reference)
    → child ≡ with_role e r → IsLead p a e lead s → IsLead p a child lead s
lead_as s p a e child r lead same (inl h) = inl h
lead_as s p a e child r lead same (inr h) = inr (
  h.0,
  λ in_list. ap (λ x. semantics_of (own_of x)) same
      ∙ ap (λ (c : Common). c.semantics.semantic_id) (common_with_role e r) ∙ h.1 in_list,
)

new_there : (s : Submodel) (p : List PathStep) (e : Element) (r : Role)
    → role_at s p e ≡ Some r → first_of (insert_causes p e s) ≡ None
    → is_named_among (id_short_of e) (children_at s p) ≡ false
new_there s p e r role none = no_conflict _ _ (is_container s p) _ (takes_children s p e r role) none

pub is_insertable : (s : Submodel) (p : List PathStep) (x : Parent)
    (e child : Element) (r : Role) (lead : Option Reference)
    → InsertedStandsAlone → EditsKeepValid → EditsCount → IsValid (submodel s) → first_of (insert_causes p e s) ≡ None
    → is_whole_element (at_level (length p + 1)) e ≡ true
    → role_below (own_of_parent x) e ≡ Some r → child ≡ with_role e r → IsParent p x s
    → (stands_in_list (own_of_parent x) ≡ true → id_short_of e ≡ None)
    → element_count s + length (kinds e) ≤ 65536 → IsLead p (own_of_parent x) e lead s
    → IsFaultless x lead child → IsAccepted (insert_causes p e) (λ s. inserted s p e) s
is_insertable s p x e child r lead law keep count valid none whole role same parent unnamed few lead_is faultless =
    let role_at_is : role_at s p e ≡ Some r = role_is s p (own_of_parent x) e parent.above ∙ role in
    let name = named_as e child r same in
    let faultless_there =
    none_as_child s p x child lead law parent
    (ap (λ n. is_named_among n (children_at s p)) name ∙ new_there s p e r role_at_is none)
    (λ list. name ∙ unnamed list) (lead_as s p (own_of_parent x) e child r lead same lead_is) faultless in record {
      no_cause = none;
      valid =
          keep.inserted s p e r valid role_at_is whole
          (ap (faults_as_child s p (children_at s p)) (sym same) ∙ faultless_there);
      few = within _ _ _ (count.inserted s p e r role_at_is) few;
    }

-- ---- what is accepted can be stored

taken : (x y : Cause) (b : Bool) → first_of (x ∷ y ∷ unless b NotAContainer ∷ []) ≡ None → b ≡ true
taken (Some r) y b is = absurd (cc)
taken None (Some r) b is = absurd (cc)
taken None None true is = refl
taken None None false is = absurd (cc)

pub takes : (s : Submodel) (p : List PathStep) (e : Element)
    → first_of (insert_causes p e s) ≡ None → IsSome (role_at s p e)
takes s p e none = taken _ _ _ none
