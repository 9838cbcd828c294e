-- The first fault, one level and one child at a time.
use Rattle.std.proofs.Common.{◌≡◌, ℕ, ◌+◌, ◌<◌, ◌≤◌, length-drop, List, [], ◌∷◌, ◌++◌, length, take, drop, get_or, map, flat_map, Option, Some, None, Bool, true, false, option_map, refl, sym, ap, ap₂, ◌∙◌, arith}
use Rattle.std.proofs.lemmas.Grind.{flat_map-append}
use Rattle.std.proofs.lemmas.List.{length-map, length-take, map-append, nil_from_length, take-append-drop}
use Rattle.std.proofs.lemmas.Simd.{map-map}
use Rattle.aas_lemmas.proofs.Lists.{drop_at}
use Rattle.aas_model.specs.declared.element.Element.{Element, out-Element}
use Rattle.aas_model.specs.declared.path.Fault.{Fault}
use Rattle.aas_model.specs.declared.path.PathStep.{PathStep}
use Rattle.aas_model.specs.declared.reference.Reference.{Reference}
use Rattle.aas_constraint_rules.specs.Sites.{Own, own_of, Site, under, step_to, root, sites, sites_among, trees, tree_of}
use Rattle.aas_model.specs.declared.documents.Submodel.{Submodel}
use Rattle.aas_reference.specs.Rules.{Rule, failing, first}
use Rattle.aas_constraint_rules.specs.Attributes.{seen_of_submodel}
use Rattle.aas_constraint_rules.specs.Faults.{document_faults, submodel_rules, is_template, sites_of, faults, fault, faults_at, element_faults}
use Rattle.aas_constraint_rules.specs.Sentences.{Sentence, holds_of}
use Rattle.aas_constraints.specs.Own.{least_broken}
use Rattle.aas_constraint_rules.specs.Rules.{name_of, semantics_of, first_some, is_repeat}
use Rattle.aas_constraint_parts.specs.Repeats.{NoRepeats}
use Rattle.aas_json_table.specs.Rows.{first_of}
use Rattle.aas_constraint_rules.proofs.Elements.{tree_out, under_fault}
use Rattle.aas_constraints.specs.declared.place.Scope.{Scope}
use Rattle.aas_constraints.specs.declared.place.Scope.TheVariants.{Everything, Local}
use Rattle.aas_constraints.specs.Walk.{Knows, counted, counted_at, first_broken, found_in, found_among}
use Rattle.aas_constraints.proofs.Lists.{first-append, first_some-last, first-map, taken_map}

-- where a place stands doesn't matter to what is broken there
counted_under : (c : Scope) (s : PathStep) (x : Site) → counted c (under s x) ≡ counted c x
counted_under Everything s x = refl
counted_under Local s x = refl

faults_under : (c : Scope) (s : PathStep) (xs : List Site) → flat_map (counted_at c) (map (under s) xs) ≡ map (under_fault s) (flat_map (counted_at c) xs)
faults_under c s [] = refl
faults_under c s (x ∷ xs) =
    ap₂ (λ a b. a ++ b) (ap (map (fault (s ∷ x.path))) (counted_under c s x) ∙ sym (map-map (under_fault s) (fault x.path) (counted c x))) (faults_under c s xs)
    ∙ sym (map-append (under_fault s) (counted_at c x) (flat_map (counted_at c) xs))

-- ---- one level

pub found_in_out : (c : Scope) (t : Bool) (a : Option Own) (b : List Own) (e : Element)
    → found_in c t a b e ≡ first_of (option_map (fault []) (first_broken c t a b (own_of e))) (found_among c t (Some (own_of e)) [] (out-Element e).kids)
unfolding found_in found_among sites sites_among
found_in_out c t a b e =
    let x : Site = record { in_template = t; path = []; above = a; before = b; own = own_of e } in
    let below = flat_map (counted_at c) (sites_among t (Some (own_of e)) [] (trees (map tree_of (out-Element e).kids))) in
    ap (λ k. first (flat_map (counted_at c) (sites t a b k))) (tree_out e) ∙ first-append (counted_at c x) below ∙ ap (λ h. first_of h (first below)) (first-map (fault []) (counted c x))

-- ---- one child

pub found_among_cons : (c : Scope) (t : Bool) (a : Option Own) (b : List Own) (k : Element) (ks : List Element)
    → found_among c t a b (k ∷ ks) ≡ first_of (option_map (under_fault (step_to a (length b) (own_of k))) (found_in c t a b k)) (found_among c t a (b ++ own_of k ∷ []) ks)
unfolding found_in found_among sites sites_among
found_among_cons c t a b k ks =
    let step = step_to a (length b) (own_of k) in
    let more : List Own → List Site = λ bs. sites_among t a bs (trees (map tree_of ks)) in
    let later = first (flat_map (counted_at c) (more (b ++ own_of k ∷ []))) in
    (λ i. first (flat_map (counted_at c) (map (under (step_to a (length b) (root (tree_out k i)))) (sites t a b (tree_of k)) ++ more (b ++ root (tree_out k i) ∷ []))))
    ∙ ap first (flat_map-append (counted_at c) (map (under step) (sites t a b (tree_of k))) (more (b ++ own_of k ∷ [])))
    ∙ first-append _ _
    ∙ ap (λ l. first_of (first l) later) (faults_under c step (sites t a b (tree_of k)))
    ∙ ap (λ h. first_of h later) (first-map (under_fault step) (flat_map (counted_at c) (sites t a b (tree_of k))))

pub found_among_none : (c : Scope) (t : Bool) (a : Option Own) (b : List Own) → found_among c t a b [] ≡ None
unfolding found_among sites_among
found_among_none c t a b = refl

-- one turn of the walk among the children
pub turn : (c : Scope) (t : Bool) (a : Option Own) (all : Option Fault) (ks : List Element) (i : ℕ) (k : Element) → i < length ks → k ≡ get_or ks i k
    → all ≡ found_among c t a (map own_of (take i ks)) (drop i ks)
    → all ≡ first_of (option_map (under_fault (step_to a i (own_of k))) (found_in c t a (map own_of (take i ks)) k)) (found_among c t a (map own_of (take (i + 1) ks)) (drop (i + 1) ks))
turn c t a all ks i k lt at so_far =
    let long : length (map own_of (take i ks)) ≡ i = length-map (take i ks) own_of ∙ omega (arith, length-take i ks) in
    so_far ∙ ap (found_among c t a (map own_of (take i ks))) (drop_at ks i k lt at) ∙ found_among_cons c t a (map own_of (take i ks)) k (drop (i + 1) ks)
    ∙ (λ j. first_of (option_map (under_fault (step_to a (long j) (own_of k))) (found_in c t a (map own_of (take i ks)) k)) (found_among c t a (sym (taken_map own_of ks i k lt at) j) (drop (i + 1) ks)))

-- ---- what the walk answers

pub found_here : (c : Scope) (t : Bool) (a : Option Own) (b : List Own) (e : Element) (n : ℕ) → Some n ≡ first_broken c t a b (own_of e) → Some (fault [] n) ≡ found_in c t a b e
found_here c t a b e n h = sym (found_in_out c t a b e ∙ ap (λ o. first_of (option_map (fault []) o) (found_among c t (Some (own_of e)) [] (out-Element e).kids)) (sym h))

pub found_below : (c : Scope) (t : Bool) (a : Option Own) (b : List Own) (e : Element) → None ≡ first_broken c t a b (own_of e) → found_among c t (Some (own_of e)) [] (out-Element e).kids ≡ found_in c t a b e
found_below c t a b e h = sym (found_in_out c t a b e ∙ ap (λ o. first_of (option_map (fault []) o) (found_among c t (Some (own_of e)) [] (out-Element e).kids)) (sym h))

pub found_child : (all here rest : Option Fault) (s : PathStep) (f : Fault) → all ≡ first_of (option_map (under_fault s) here) rest → Some f ≡ here → Some (under_fault s f) ≡ all
found_child all here rest s f h is = sym (h ∙ ap (λ o. first_of (option_map (under_fault s) o) rest) (sym is))

pub none_in_child : (all here rest : Option Fault) (s : PathStep) → all ≡ first_of (option_map (under_fault s) here) rest → None ≡ here → all ≡ rest
none_in_child all here rest s h is = h ∙ ap (λ o. first_of (option_map (under_fault s) o) rest) (sym is)

pub ended : (c : Scope) (t : Bool) (a : Option Own) (all : Option Fault) (b : List Own) (ks : List Element) (i : ℕ) → length ks ≤ i → all ≡ found_among c t a b (drop i ks) → None ≡ all
ended c t a all b ks i le h = let none_left : drop i ks ≡ [] = nil_from_length (drop i ks) (omega (arith, length-drop i ks)) in
    sym (h ∙ ap (found_among c t a b) none_left ∙ found_among_none c t a b)

pub lead_next : (ks : List Element) (i : ℕ) (k : Element) (l : Option Reference) → i < length ks → k ≡ get_or ks i k → l ≡ first_some (map semantics_of (map own_of (take i ks)))
    → first_of l (semantics_of (own_of k)) ≡ first_some (map semantics_of (map own_of (take (i + 1) ks)))
lead_next ks i k l lt at h =
    let b = map own_of (take i ks) in
    ap (λ x. first_of x (semantics_of (own_of k))) h ∙ sym (first_some-last (map semantics_of b) (semantics_of (own_of k)))
    ∙ ap first_some (sym (map-append semantics_of b (own_of k ∷ []))) ∙ ap (λ bs. first_some (map semantics_of bs)) (sym (taken_map own_of ks i k lt at))

-- where no child has the idShort of an earlier one
pub no_repeat_at : (all ks : List Element) (i : ℕ) (k : Element) → i < length ks → k ≡ get_or ks i k → all ≡ ks → NoRepeats (map own_of all)
    → is_repeat (map own_of (take i ks)) (name_of (own_of k)) ≡ false
no_repeat_at all ks i k lt at same apart =
    let parts = same ∙ sym (take-append-drop i ks) ∙ ap (λ xs. take i ks ++ xs) (drop_at ks i k lt at) in
    apart _ (own_of k) (map own_of (drop (i + 1) ks)) (ap (map own_of) parts ∙ map-append own_of (take i ks) (k ∷ drop (i + 1) ks))

-- ---- an element alone

pub alone : (e : Element) → first (element_faults e) ≡ first_of (option_map (under_fault (step_to None 0 (own_of e))) (found_in Everything true None [] e)) None
unfolding found_among
alone e = found_among_cons Everything true None [] e [] ∙ ap (first_of (option_map (under_fault (step_to None 0 (own_of e))) (found_in Everything true None [] e))) (found_among_none Everything true None (own_of e ∷ []))

-- ---- documents

pub document_first : {D : Type 0} (rs : List (Rule (Sentence D))) (references : List Reference) (d : D) → first (document_faults rs references d) ≡ option_map (fault []) (least_broken rs references d)
document_first rs references d = first-map (fault []) (failing (holds_of references d) rs)

-- nothing is broken at the document, or the least number
pub document_none : {D : Type 0} (rs : List (Rule (Sentence D))) (references : List Reference) (d : D) → least_broken rs references d ≡ None → None ≡ first (document_faults rs references d)
document_none rs references d e = sym (document_first rs references d ∙ ap (option_map (fault [])) e)

pub document_some : {D : Type 0} (rs : List (Rule (Sentence D))) (references : List Reference) (d : D) (n : ℕ) → least_broken rs references d ≡ Some n → Some (fault [] n) ≡ first (document_faults rs references d)
document_some rs references d n e = sym (document_first rs references d ∙ ap (option_map (fault [])) e)

submodel_first : (d : Submodel) → first (faults d) ≡ first_of (option_map (fault []) (least_broken submodel_rules (seen_of_submodel d).references d)) (found_among Everything (is_template d.kind) None [] d.kids)
unfolding found_among
submodel_first d = first-append (document_faults submodel_rules (seen_of_submodel d).references d) (flat_map faults_at (sites_of d)) ∙ ap (λ o. first_of o (first (flat_map faults_at (sites_of d)))) (document_first submodel_rules (seen_of_submodel d).references d)

pub submodel_some : (d : Submodel) (n : ℕ) → least_broken submodel_rules (seen_of_submodel d).references d ≡ Some n → Some (fault [] n) ≡ first (faults d)
submodel_some d n e = sym (submodel_first d ∙ ap (λ o. first_of (option_map (fault []) o) (found_among Everything (is_template d.kind) None [] d.kids)) e)

pub submodel_below : (d : Submodel) → least_broken submodel_rules (seen_of_submodel d).references d ≡ None → found_among Everything (is_template d.kind) None [] d.kids ≡ first (faults d)
submodel_below d e = sym (submodel_first d ∙ ap (λ o. first_of (option_map (fault []) o) (found_among Everything (is_template d.kind) None [] d.kids)) e)

-- ---- an element without siblings

no_repeat : (name : Option (List ℕ)) → false ≡ is_repeat [] name
no_repeat None = refl
no_repeat (Some name) = refl

pub nothing_before : (e : Element) → Knows [] (out-Element e).common.id_short false None
nothing_before e = record { names = no_repeat (out-Element e).common.id_short; semantics = refl }
