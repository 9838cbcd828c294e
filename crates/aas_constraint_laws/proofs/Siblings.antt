-- In a submodel without faults siblings differ, and their names can be written: at each place the sentences on idShorts hold.
use Rattle.std.proofs.Common.{◌≡◌, ℕ, zero, suc, Bool, true, false, not, ◌||◌, List, [], ◌∷◌, ◌++◌, length, drop, map, filter_map, flat_map, slice_get, Option, Some, None, IsSome, is_some, option_and_then, refl, sym, ap, ◌∙◌, subst}
use Rattle.std.specs.List.{AllByRecursion, cons_option}
use Rattle.std.proofs.lemmas.Grind.{flat_map-append}
use Rattle.std.proofs.lemmas.List.Elements.{filter_map-append}
use Rattle.std.proofs.lemmas.List.Folds.{list_any-append}
use Rattle.std.proofs.lemmas.Slice.Eq.{bytes_eq-Decides}
use Rattle.std.specs.Prelude.{bytes_eq}
use Rattle.std.proofs.lemmas.Bool.{or_left, or_right}
use Rattle.aas_model.specs.declared.documents.Submodel.{Submodel}
use Rattle.aas_model.specs.declared.element.Element.{Element, out-Element}
use Rattle.aas_model.specs.declared.path.PathStep.{PathStep}
use Rattle.aas_model.specs.declared.payload.Payload.{Payload}
use Rattle.aas_model.specs.declared.payload.Payload.TheVariants as payload
use Rattle.aas_reference.specs.Rules.{if_any}
use Rattle.aas_constraint_rules.specs.Attributes.{seen_of_submodel}
use Rattle.aas_constraint_rules.specs.Decided.{is_id_short}
use Rattle.aas_constraint_rules.specs.Faults.{fault, broken, faults_at, document_faults, submodel_rules, is_template, sites_of, submodel, HasNoFault}
use Rattle.aas_constraint_rules.specs.Rules.{holds, name_of, is_repeat, name_is_new, is_named, variable_is_new, stands_in_operation, rules}
use Rattle.aas_constraint_rules.specs.Sites as site
use Rattle.aas_constraint_rules.specs.Sites.{Own, own_of, Site, root, under, step_to, stands_in_list, sites, sites_among, trees, tree_of}
use Rattle.aas_constraint_rules.specs.Texts.{is_among}
use Rattle.aas_path_trees.specs.Children.{kids_of, id_short_of, is_list_payload}
use Rattle.aas_path_trees.specs.Laws.{HasOnePath}
use Rattle.aas_path_trees.specs.Places.{element_in, element_in_all, AreNamed, Differ, PlacesKeepRule, SiblingsDiffer, StepsKeepRule}
use Rattle.aas_path_trees.proofs.OnePath.{one_path}
use Rattle.aas_constraint_rules.proofs.Elements.{tree_out}
use Rattle.aas_lemmas.proofs.Lists.{no_first, no_second, no_map}
use Rattle.aas_constraint_laws.specs.OnePath.{HasOneWrittenPath}
use Rattle.aas_constraint_laws.proofs.PathNames.{id_short_is, named_own}
use Rattle.aas_constraint_laws.proofs.Places.{Passes, each_passes, none_local}

-- ---- what holds at a place without faults

later_hold : {X : Type 0} (P : X → Type 0) (n : ℕ) (xs : List X) → AllByRecursion P xs → AllByRecursion P (drop n xs)
later_hold P zero xs h = h
later_hold P (suc n) [] h = h
later_hold P (suc n) (x ∷ xs) h = later_hold P n xs h.1

-- a name is new, whether or not the place is among variables
pub neither : (p q : Bool) → p || not q ≡ true → not p || not q ≡ true → q ≡ false
neither p false e f = refl
neither true true e f = absurd (cc)
neither false true e f = absurd (cc)

left_holds : (p q : Bool) → p || q ≡ true → q ≡ false → p ≡ true
left_holds true q e f = refl
left_holds false q e f = absurd (cc)

-- what the sentences say of a name
record NameFits (a : Option Own) (b : List Own) (o : Own) : Type 0 where
  is_new : is_repeat b (name_of o) ≡ false
  has_name : stands_in_list a ≡ false → IsSome (name_of o)
  can_be_written : if_any is_id_short (name_of o) ≡ true

abbrev at_root : Bool → Option Own → List Own → Own → Site
at_root t a b o = record { in_template = t; path = []; above = a; before = b; own = o }

fits : (t : Bool) (a : Option Own) (b : List Own) (o : Own) → broken (at_root t a b o) ≡ [] → NameFits a b o
fits t a b o e =
    let x : Site = at_root t a b o in
    let all = each_passes (λ s. holds s x) rules e in
    let from : (n : ℕ) → AllByRecursion (Passes (λ s. holds s x)) (drop n rules) = λ n. later_hold (Passes (λ s. holds s x)) n rules all in
    let new : name_is_new x ≡ true = (from 5).0 in
    let named : is_named x ≡ true = (from 11).0 in
    let variable : variable_is_new x ≡ true = (from 25).0 in
    record {
      is_new = neither (stands_in_operation a) (is_repeat b (name_of o)) new variable;
      has_name = left_holds (is_some (name_of o)) (stands_in_list a) named;
      can_be_written = named_own o (none_local x e);
    }

-- ---- elements without faults

-- at e, whose parent is a and whose earlier siblings are b, and below it
record Clean (t : Bool) (a : Option Own) (b : List Own) (e : Element) : Type 0 where
  faultless : flat_map faults_at (sites t a b (tree_of e)) ≡ []

-- at each of ks, which come after the siblings b, and below them
record AllClean (t : Bool) (a : Option Own) (b : List Own) (ks : List Element) : Type 0 where
  faultless : flat_map faults_at (sites_among t a b (trees (map tree_of ks))) ≡ []

no_under : (s : PathStep) (xs : List Site) → flat_map faults_at (map (under s) xs) ≡ [] → flat_map faults_at xs ≡ []
no_under s [] e = refl
no_under s (x ∷ xs) e =
    let here : broken x ≡ [] = no_map (fault (s ∷ x.path)) (broken x) (no_first (faults_at (under s x)) (flat_map faults_at (map (under s) xs)) e) in
    let later : flat_map faults_at xs ≡ [] = no_under s xs (no_second (faults_at (under s x)) (flat_map faults_at (map (under s) xs)) e) in
    ap (λ (ns : List ℕ). map (fault x.path) ns ++ flat_map faults_at xs) here ∙ later

clean_out : (t : Bool) (a : Option Own) (b : List Own) (e : Element) → Clean t a b e → NameFits a b (own_of e) × AllClean t (Some (own_of e)) [] (kids_of e)
unfolding sites sites_among
clean_out t a b e c =
    let x : Site = at_root t a b (own_of e) in
    let below = flat_map faults_at (sites_among t (Some (own_of e)) [] (trees (map tree_of (kids_of e)))) in
    let whole : faults_at x ++ below ≡ [] = sym (ap (λ k. flat_map faults_at (sites t a b k)) (tree_out e)) ∙ c.faultless in
    (fits t a b (own_of e) (no_map (fault []) (broken x) (no_first (faults_at x) below whole)), record { faultless = no_second (faults_at x) below whole })

clean_cons : (t : Bool) (a : Option Own) (b : List Own) (k : Element) (ks : List Element) → AllClean t a b (k ∷ ks) → Clean t a b k × AllClean t a (b ++ own_of k ∷ []) ks
unfolding sites sites_among
clean_cons t a b k ks c =
    let s = step_to a (length b) (root (tree_of k)) in
    let here = map (under s) (sites t a b (tree_of k)) in
    let more : Own → List Site = λ o. sites_among t a (b ++ o ∷ []) (trees (map tree_of ks)) in
    let whole : flat_map faults_at here ++ flat_map faults_at (more (root (tree_of k))) ≡ [] = sym (flat_map-append faults_at here (more (root (tree_of k)))) ∙ c.faultless in
    let later : flat_map faults_at (more (root (tree_of k))) ≡ [] = no_second (flat_map faults_at here) (flat_map faults_at (more (root (tree_of k)))) whole in (
      record { faultless = no_under s (sites t a b (tree_of k)) (no_first (flat_map faults_at here) (flat_map faults_at (more (root (tree_of k)))) whole) },
      record { faultless = ap (λ u. flat_map faults_at (more (root u))) (sym (tree_out k)) ∙ later },
    )

-- ---- down to a place

clean_below : (t : Bool) (a : Option Own) (b : List Own) (ks : List Element) (i : ℕ) (k : Element) → AllClean t a b ks → slice_get ks i ≡ Some k → AllClean t (Some (own_of k)) [] (kids_of k)
clean_below t a b [] i k c there = absurd (cc)
clean_below t a b (x ∷ ks) zero k c there =
    let same : x ≡ k = cc in subst (λ (e : Element). AllClean t (Some (own_of e)) [] (kids_of e)) same (clean_out t a b x (clean_cons t a b x ks c).0).1
clean_below t a b (x ∷ ks) (suc i) k c there = clean_below t a (b ++ own_of x ∷ []) ks i k (clean_cons t a b x ks c).1 there

clean_child : (t : Bool) (a : Option Own) (ks : List Element) (i : ℕ) (q : List ℕ) (e : Element) (found : Option Element) → AllClean t a [] ks → slice_get ks i ≡ found
    → option_and_then (element_in q) found ≡ Some e
    → ((k : Element) → AllClean t (Some (own_of k)) [] (kids_of k) → element_in q k ≡ Some e → AllClean t (Some (own_of e)) [] (kids_of e))
    → AllClean t (Some (own_of e)) [] (kids_of e)
clean_child t a ks i q e None c is there more = absurd (cc)
clean_child t a ks i q e (Some k) c is there more = more k (clean_below t a [] ks i k c is) there

clean_in : (t : Bool) (q : List ℕ) (o e : Element) → AllClean t (Some (own_of o)) [] (kids_of o) → element_in q o ≡ Some e → AllClean t (Some (own_of e)) [] (kids_of e)
unfolding element_in
clean_in t [] o e c there = let same : o ≡ e = cc in subst (λ (k : Element). AllClean t (Some (own_of k)) [] (kids_of k)) same c
clean_in t (i ∷ q) o e c there = clean_child t (Some (own_of o)) (kids_of o) i q e (slice_get (kids_of o) i) c refl there (λ k. clean_in t q k e)

clean_in_all : (t : Bool) (q : List ℕ) (ks : List Element) (e : Element) → AllClean t None [] ks → element_in_all q ks ≡ Some e → AllClean t (Some (own_of e)) [] (kids_of e)
clean_in_all t [] ks e c there = absurd (cc)
clean_in_all t (i ∷ q) ks e c there = clean_child t None ks i q e (slice_get ks i) c refl there (λ k. clean_in t q k e)

-- ---- siblings

-- the names of siblings, and one more
pub among_last : (n : List ℕ) (b : List Own) (o : Own) → is_among n (filter_map name_of (b ++ o ∷ [])) ≡ (is_among n (filter_map name_of b) || is_among n (cons_option (name_of o) []))
among_last n b o = ap (is_among n) (filter_map-append name_of b (o ∷ [])) ∙ list_any-append (bytes_eq n) (filter_map name_of b) (cons_option (name_of o) [])

still_among : (n : List ℕ) (b : List Own) (o : Own) → is_among n (filter_map name_of b) ≡ true → is_among n (filter_map name_of (b ++ o ∷ [])) ≡ true
still_among n b o e = among_last n b o ∙ or_left (is_among n (filter_map name_of b)) (is_among n (cons_option (name_of o) [])) e

now_among : (n : List ℕ) (b : List Own) (o : Own) → name_of o ≡ Some n → is_among n (filter_map name_of (b ++ o ∷ [])) ≡ true
now_among n b o is =
    let here : is_among n (cons_option (name_of o) []) ≡ true = ap (λ m. is_among n (cons_option m [])) is ∙ or_left (bytes_eq n n) false ((bytes_eq-Decides n n).1 refl) in
    among_last n b o ∙ or_right (is_among n (filter_map name_of b)) (is_among n (cons_option (name_of o) [])) here

-- no one has a name that stands earlier
not_again : (t : Bool) (a : Option Own) (b : List Own) (ks : List Element) (j : ℕ) (m : Element) (n : List ℕ) → AllClean t a b ks → is_among n (filter_map name_of b) ≡ true
    → slice_get ks j ≡ Some m → id_short_of m ≡ Some n → ⊥
not_again t a b [] j m n c among there name = absurd (cc)
not_again t a b (k ∷ ks) zero m n c among there name =
    let same : k ≡ m = cc in
    let new : is_repeat b (id_short_of k) ≡ false = (clean_out t a b k (clean_cons t a b k ks c).0).0.is_new in
    let again : is_repeat b (id_short_of k) ≡ true = ap (is_repeat b) (ap id_short_of same ∙ name) ∙ among in
    let wrong : false ≡ true = sym new ∙ again in
    absurd (cc)
not_again t a b (k ∷ ks) (suc j) m n c among there name = not_again t a (b ++ own_of k ∷ []) ks j m n (clean_cons t a b k ks c).1 (still_among n b (own_of k) among) there name

named : (t : Bool) (a : Option Own) (b : List Own) (ks : List Element) (i : ℕ) (k : Element) → stands_in_list a ≡ false → AllClean t a b ks → slice_get ks i ≡ Some k → IsSome (id_short_of k)
named t a b [] i k free c there = absurd (cc)
named t a b (x ∷ ks) zero k free c there =
    let same : x ≡ k = cc in
    let some : IsSome (id_short_of x) = (clean_out t a b x (clean_cons t a b x ks c).0).0.has_name free in
    subst (λ (e : Element). IsSome (id_short_of e)) same some
named t a b (x ∷ ks) (suc i) k free c there = named t a (b ++ own_of x ∷ []) ks i k free (clean_cons t a b x ks c).1 there

not_twice : (t : Bool) (a : Option Own) (b : List Own) (ks : List Element) (j : ℕ) (k m : Element) (o : Option (List ℕ)) → AllClean t a (b ++ own_of k ∷ []) ks → id_short_of k ≡ o → IsSome o
    → slice_get ks j ≡ Some m → id_short_of k ≡ id_short_of m → ⊥
not_twice t a b ks j k m None c is some there same = absurd (cc)
not_twice t a b ks j k m (Some n) c is some there same = not_again t a (b ++ own_of k ∷ []) ks j m n c (now_among n b (own_of k) is) there (sym same ∙ is)

-- the first of ks, and one after it
not_later : (t : Bool) (a : Option Own) (b : List Own) (x : Element) (ks : List Element) (j : ℕ) (k m : Element) → stands_in_list a ≡ false → AllClean t a b (x ∷ ks) → Some x ≡ Some k
    → slice_get ks j ≡ Some m → id_short_of k ≡ id_short_of m → ⊥
not_later t a b x ks j k m free c here there same =
    let is : k ≡ x = cc in
    not_twice t a b ks j x m (id_short_of x) (clean_cons t a b x ks c).1 refl (named t a b (x ∷ ks) 0 x free c refl) there (ap id_short_of (sym is) ∙ same)

apart : (t : Bool) (a : Option Own) (b : List Own) (ks : List Element) (i j : ℕ) (k m : Element) → stands_in_list a ≡ false → AllClean t a b ks
    → slice_get ks i ≡ Some k → slice_get ks j ≡ Some m → id_short_of k ≡ id_short_of m → i ≡ j
apart t a b [] i j k m free c at_i at_j same = absurd (cc)
apart t a b (x ∷ ks) zero zero k m free c at_i at_j same = refl
apart t a b (x ∷ ks) zero (suc j) k m free c at_i at_j same = absurd (not_later t a b x ks j k m free c at_i at_j same)
apart t a b (x ∷ ks) (suc i) zero k m free c at_i at_j same = absurd (not_later t a b x ks i m k free c at_j at_i (sym same))
apart t a b (x ∷ ks) (suc i) (suc j) k m free c at_i at_j same = ap suc (apart t a (b ++ own_of x ∷ []) ks i j k m free (clean_cons t a b x ks c).1 at_i at_j same)

-- no two have the same name, in lists too
names_apart : (t : Bool) (a : Option Own) (b : List Own) (ks : List Element) (i j : ℕ) (k m : Element) (n : List ℕ) → AllClean t a b ks → slice_get ks i ≡ Some k → slice_get ks j ≡ Some m
    → id_short_of k ≡ Some n → id_short_of m ≡ Some n → i ≡ j
names_apart t a b [] i j k m n c at_i at_j first second = absurd (cc)
names_apart t a b (x ∷ ks) zero zero k m n c at_i at_j first second = refl
names_apart t a b (x ∷ ks) zero (suc j) k m n c at_i at_j first second =
    let is : x ≡ k = cc in
    absurd (not_again t a (b ++ own_of x ∷ []) ks j m n (clean_cons t a b x ks c).1 (now_among n b (own_of x) (ap id_short_of is ∙ first)) at_j second)
names_apart t a b (x ∷ ks) (suc i) zero k m n c at_i at_j first second =
    let is : x ≡ m = cc in
    absurd (not_again t a (b ++ own_of x ∷ []) ks i k n (clean_cons t a b x ks c).1 (now_among n b (own_of x) (ap id_short_of is ∙ second)) at_i first)
names_apart t a b (x ∷ ks) (suc i) (suc j) k m n c at_i at_j first second =
    ap suc (names_apart t a (b ++ own_of x ∷ []) ks i j k m n (clean_cons t a b x ks c).1 at_i at_j first second)

differ : (t : Bool) (a : Option Own) (ks : List Element) → stands_in_list a ≡ false → AllClean t a [] ks → Differ ks
differ t a ks free c = record {
  named = λ i k there. named t a [] ks i k free c there;
  apart = λ i j k m at_i at_j same. apart t a [] ks i j k m free c at_i at_j same;
}

written : (t : Bool) (a : Option Own) (b : List Own) (ks : List Element) → AllClean t a b ks → AreNamed ks
written t a b [] c i k n there name = absurd (cc)
written t a b (x ∷ ks) c zero k n there name =
    let same : x ≡ k = cc in
    let can : if_any is_id_short (id_short_of x) ≡ true = (clean_out t a b x (clean_cons t a b x ks c).0).0.can_be_written in
    id_short_is n (sym (ap (if_any is_id_short) (ap id_short_of same ∙ name)) ∙ can)
written t a b (x ∷ ks) c (suc i) k n there name = written t a (b ++ own_of x ∷ []) ks (clean_cons t a b x ks c).1 i k n there name

-- ---- the laws

-- lists are the same, for the rules and for the trees
same_lists : (p : Payload) → site.is_list p ≡ is_list_payload p
same_lists (payload.SubmodelElementList o s t v) = refl
same_lists p = refl

all_clean : (d : Submodel) → HasNoFault (submodel d) → AllClean (is_template d.kind) None [] d.kids
all_clean d none = record { faultless = no_second (document_faults submodel_rules (seen_of_submodel d).references d) (flat_map faults_at (sites_of d)) none }

-- no two siblings have the same name
pub own_names : (d : Submodel) (i j : ℕ) (k m : Element) (n : List ℕ) → HasNoFault (submodel d) → slice_get d.kids i ≡ Some k → slice_get d.kids j ≡ Some m
    → id_short_of k ≡ Some n → id_short_of m ≡ Some n → i ≡ j
own_names d i j k m n none at_i at_j first second = names_apart (is_template d.kind) None [] d.kids i j k m n (all_clean d none) at_i at_j first second

pub own_names_below : (d : Submodel) (q : List ℕ) (e : Element) (i j : ℕ) (k m : Element) (n : List ℕ) → HasNoFault (submodel d) → element_in_all q d.kids ≡ Some e
    → slice_get (kids_of e) i ≡ Some k → slice_get (kids_of e) j ≡ Some m → id_short_of k ≡ Some n → id_short_of m ≡ Some n → i ≡ j
own_names_below d q e i j k m n none there at_i at_j first second =
    names_apart (is_template d.kind) (Some (own_of e)) [] (kids_of e) i j k m n (clean_in_all (is_template d.kind) q d.kids e (all_clean d none) there) at_i at_j first second

pub siblings_differ : (d : Submodel) → HasNoFault (submodel d) → SiblingsDiffer d
siblings_differ d none =
    let t : Bool = is_template d.kind in
    let clean = all_clean d none in
    record {
      first = differ t None d.kids refl clean;
      below = λ q e there free. differ t (Some (own_of e)) (kids_of e) (same_lists (out-Element e).payload ∙ free) (clean_in_all t q d.kids e clean there);
    }

steps_keep_rule : (d : Submodel) → HasNoFault (submodel d) → PlacesKeepRule d → StepsKeepRule d
steps_keep_rule d none places =
    let t : Bool = is_template d.kind in
    let clean = all_clean d none in
    record {
      first = written t None [] d.kids clean;
      below = λ q e there free. written t (Some (own_of e)) [] (kids_of e) (clean_in_all t q d.kids e clean there);
      lists = places;
    }

pub elements_have_one_path : (d : Submodel) (q : List ℕ) (e : Element) → HasNoFault (submodel d) → element_in_all q d.kids ≡ Some e → HasOneWrittenPath d q e
elements_have_one_path d q e none there =
    let one : HasOnePath d q e = one_path d q e (siblings_differ d none) there in
    record { one = one; written = λ places. one.keeps (steps_keep_rule d none places) }
