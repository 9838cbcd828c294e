-- Submodels conform to themselves.
use Rattle.std.proofs.Common.{◌≡◌, ℕ, zero, suc, ◌≤◌, ◌==◌, Bool, true, List, [], ◌∷◌, ◌++◌, length, flat_map, map, slice_get, bytes_eq, inl, inr, Option, Some, None, option_and_then, if◌then◌else◌, refl, sym, ap, ap₂, ◌∙◌, subst, arith}
use Rattle.std.proofs.lemmas.Bool.{and_from, cases_Bool, ne_eqb, eq-eqb, or_left}
use Rattle.std.proofs.lemmas.List.{append-nil}
use Rattle.std.proofs.lemmas.Slice.Eq.{bytes_eq-Decides}
use Rattle.aas_model_names.specs.ElementNameNames as element_name
use Rattle.aas_model_names.specs.KeyTypeNames as key_type
use Rattle.aas_model_names.specs.KindNames as kind
use Rattle.aas_model_names.specs.ReferenceTypeNames as reference_type
use Rattle.aas_model_names.specs.ValueTypeNames as value_type
use Rattle.aas_model_names.specs.declared.kind.ElementName.{ElementName}
use Rattle.aas_model_names.specs.declared.value_type.ValueType.{ValueType}
use Rattle.aas_constraint_rules.specs.Rules.{list_type, list_value_type, value_type_of}
use Rattle.aas_model.specs.Payload.{kind_of}
use Rattle.aas_model.specs.declared.documents.Submodel.{Submodel}
use Rattle.aas_model.specs.declared.element.Element.{Element, out-Element}
use Rattle.aas_model.specs.declared.element.Role.{Role}
use Rattle.aas_model.specs.declared.element.Role.TheVariants.{Member}
use Rattle.aas_model.specs.declared.path.PathStep.TheVariants.{Name, Place}
use Rattle.aas_model.specs.declared.payload.Payload.{Payload}
use Rattle.aas_model.specs.declared.payload.Payload.TheVariants as payload
use Rattle.aas_model.specs.declared.reference.Key.{Key}
use Rattle.aas_model.specs.declared.reference.Reference.{Reference, out-Reference}
use Rattle.aas_reference.specs.Same.{same, same_key, same_keys}
use Rattle.aas_path_trees.specs.Children.{kids_of, is_list, is_list_payload}
use Rattle.aas_path_trees.specs.Places.{Differ, SiblingsDiffer, element_in}
use Rattle.aas_constraint_laws.proofs.Siblings.{siblings_differ}
use Rattle.aas_constraint_rules.specs.Sites as sites
use Rattle.aas_constraint_rules.specs.Sites.{Own, own_of}
use Rattle.aas_rows.proofs.Trees.{Every, by_kids}
use Rattle.aas_template.specs.Belonging.{admits, belongs, id_short, same_role}
use Rattle.aas_template.specs.Cardinality.{allows, cardinality}
use Rattle.aas_template.specs.declared.cardinality.Cardinality.{Cardinality}
use Rattle.aas_template.specs.declared.cardinality.Cardinality.TheVariants.{One, ZeroToMany}
use Rattle.aas_template.specs.declared.difference.Difference.{Difference}
use Rattle.aas_template.specs.declared.difference.Reason.TheVariants.{KindDiffers, TypeDiffers, SemanticDiffers}
use Rattle.aas_template.specs.Differences.{Compared, belonging, compared, difference, differences, differences_among, differences_below, differences_in_list, group_differences, means_the_same, named_differences, same_element_type, same_if_any, same_kind, same_types, same_value_type, under, unless}
use Rattle.aas_template.specs.Index.{name_of}
use Rattle.aas_template.specs.Laws.{ConformToThemselves, DifferBelow}
use Rattle.aas_template.proofs.Indexed.{none_longer_yet}
use Rattle.aas_template.proofs.Levels.{Is, differences_out, own_belonging}
use Rattle.aas_template.proofs.Lists.{filter_one}
use Rattle.aas_template.proofs.Owners.{belongs_there}
use Rattle.aas_template.proofs.Texts.{whole}

-- ---- an element alone

same_text : (n : List ℕ) → bytes_eq n n ≡ true
same_text n = (bytes_eq-Decides n n).1 refl

same_any : {X : Type 0} (test : X → X → Bool) → ((x : X) → test x x ≡ true) → (o : Option X) → same_if_any test o o ≡ true
same_any test alike None = refl
same_any test alike (Some x) = alike x

kind_same : (p : Payload) → same_kind p p ≡ true
kind_same p = same_text (kind.name_of (kind_of p))

value_types_same : (o : Option ValueType) → same_value_type o o ≡ true
value_types_same o = same_any (λ x y. bytes_eq (value_type.name_of x) (value_type.name_of y)) (λ x. same_text (value_type.name_of x)) o

element_types_same : (o : Option ElementName) → same_element_type o o ≡ true
element_types_same o = same_any (λ x y. bytes_eq (element_name.name_of x) (element_name.name_of y)) (λ x. same_text (element_name.name_of x)) o

types_same : (p : Payload) → same_types p p ≡ true
types_same p = and_from _ _ (and_from _ _ (value_types_same (value_type_of p)) (element_types_same (list_type p))) (value_types_same (list_value_type p))

keys_same : (ks : List Key) → same_keys ks ks ≡ true
keys_same [] = refl
keys_same (k ∷ ks) =
    and_from (same_key k k) (same_keys ks ks)
    (and_from (bytes_eq (key_type.name_of k.key_type) (key_type.name_of k.key_type)) (bytes_eq k.value k.value) (same_text (key_type.name_of k.key_type)) (same_text k.value)) (keys_same ks)

reference_same : (r : Reference) → same r r ≡ true
reference_same r =
    let n = reference_type.name_of (out-Reference r).ref_type in
    let ks = (out-Reference r).keys in
    and_from (bytes_eq n n) (same_keys ks ks) (same_text n) (keys_same ks)

means : (o : Option Reference) → means_the_same o o ≡ true
means None = refl
means (Some r) = reference_same r

role_same : (r : Role) → same_role r r ≡ true
role_same Member = refl
role_same _ = refl

unless_holds : (b : Bool) (d : Difference) → b ≡ true → unless b d ≡ []
unless_holds b d h = ap (λ x. unless x d) h

one_allowed : (c : Cardinality) → allows c 1 ≡ true
one_allowed One = refl
one_allowed _ = refl

admits_itself : (o : Own) → admits o o ≡ true
admits_itself o = and_from _ _ (role_same o.role) (or_left _ _ (same_text (id_short o)))

-- ---- a child of anything but a list belongs to itself alone

is_itself : (ks : List Element) → Differ ks → (j i : ℕ) (t x : Element) → slice_get ks j ≡ Some t → slice_get ks i ≡ Some x → Is ks t x ≡ (j == i)
is_itself ks differ j i t x at there =
    belongs_there ks (own_of x) i x (name_of x) differ there refl (whole (name_of x)) (admits_itself (own_of x)) (none_longer_yet ks (own_of x)) j t at

its_group : (ks : List Element) → Differ ks → (j : ℕ) (t : Element) → slice_get ks j ≡ Some t → belonging (map own_of ks) (own_of t) ks ≡ t ∷ []
its_group ks differ j t at =
    filter_one (λ k. belongs (map own_of ks) (own_of t) (own_of k)) ks j t at (is_itself ks differ j j t t at at ∙ eq-eqb j j refl)
    (λ i x there apart. is_itself ks differ j i t x at there ∙ ne_eqb j i (λ e. apart (sym e)))

-- ---- an element and all below it

list_payloads : (p : Payload) → sites.is_list p ≡ is_list_payload p
list_payloads payload.Capability = refl
list_payloads _ = refl

pub list_tests : (e : Element) → sites.is_list (own_of e).payload ≡ is_list e
list_tests e = list_payloads (out-Element e).payload

-- lists have one child at most, from e on
ListsHaveOne : Element → Type 0
ListsHaveOne e = (q : List ℕ) (k : Element) → element_in q e ≡ Some k → is_list k ≡ true → length (kids_of k) ≤ 1

pub child_differs : (e : Element) (j : ℕ) (k : Element) → slice_get (kids_of e) j ≡ Some k → DifferBelow e → DifferBelow k
unfolding element_in
child_differs e j k at h = λ q m there not_so. h (j ∷ q) m (ap (λ o. option_and_then (element_in q) o) at ∙ there) not_so

child_has_one : (e : Element) (j : ℕ) (k : Element) → slice_get (kids_of e) j ≡ Some k → ListsHaveOne e → ListsHaveOne k
unfolding element_in ListsHaveOne
child_has_one e j k at h = λ q m there so. h (j ∷ q) m (ap (λ o. option_and_then (element_in q) o) at ∙ there) so

Itself : Element → Type 0
Itself e = DifferBelow e → ListsHaveOne e → differences e e ≡ []

every_at : (P : Element → Type 0) (ks : List Element) (j : ℕ) (k : Element) → Every P ks → slice_get ks j ≡ Some k → P k
every_at P [] j k h at = absurd (cc)
every_at P (x ∷ ks) zero k h at = let same : x ≡ k = cc in subst P same h.0
every_at P (x ∷ ks) (suc j) k h at = every_at P ks j k h.1 at

-- where each child conforms to itself
KidsConform : List Element → Type 0
KidsConform ks = (j : ℕ) (k : Element) → slice_get ks j ≡ Some k → differences k k ≡ []

named_nothing : (k : Element) → differences k k ≡ [] → flat_map (named_differences (compared k)) (k ∷ []) ≡ []
named_nothing k h = append-nil (named_differences (compared k) k) ∙ ap (map (under (Name (id_short (own_of k))))) h

group_nothing : (ks : List Element) → Differ ks → KidsConform ks → (j : ℕ) (t : Element) → slice_get ks j ≡ Some t
    → group_differences (compared t) (belonging (map (λ u. u.own) (map compared ks)) (compared t).own ks) ≡ []
unfolding KidsConform
group_nothing ks differ h j t at =
    ap (group_differences (compared t)) (own_belonging ks t ks ∙ its_group ks differ j t at)
    ∙ ap₂ (λ a b. a ++ b) (unless_holds _ _ (one_allowed (cardinality One (compared t).own.common.qualifiers))) (named_nothing t (h j t at))

over_compared : (f : Compared → List Difference) (ks : List Element) → ((j : ℕ) (t : Element) → slice_get ks j ≡ Some t → f (compared t) ≡ []) → flat_map f (map compared ks) ≡ []
over_compared f [] h = refl
over_compared f (k ∷ ks) h = ap₂ (λ a b. a ++ b) (h zero k refl) (over_compared f ks (λ j t at. h (suc j) t at))

among_nothing : (ks : List Element) → Differ ks → KidsConform ks → differences_among (map compared ks) ks ≡ []
among_nothing ks differ h =
    over_compared (λ t. group_differences t (belonging (map (λ u. u.own) (map compared ks)) t.own ks)) ks (group_nothing ks differ h)

list_nothing : (ks : List Element) → length ks ≤ 1 → KidsConform ks → differences_in_list (map compared ks) ks ≡ []
unfolding KidsConform
list_nothing [] few h = refl
list_nothing (k ∷ []) few h =
    ap₂ (λ a b. a ++ b) (unless_holds _ _ (one_allowed (cardinality ZeroToMany (compared k).own.common.qualifiers)))
    (append-nil (map (under (Place 0)) (differences k k)) ∙ ap (map (under (Place 0))) (h zero k refl))
list_nothing (k ∷ m ∷ ks) few h = absurd (omega (arith, few))

below_nothing : (e : Element) → DifferBelow e → ListsHaveOne e → KidsConform (kids_of e)
    → differences_below (own_of e).payload (map compared (kids_of e)) (kids_of e) ≡ []
unfolding ListsHaveOne element_in
below_nothing e differ one h =
    elim (cases_Bool (is_list e)) [
      | inl so ↦
          ap (λ b. if b then differences_in_list (map compared (kids_of e)) (kids_of e) else differences_among (map compared (kids_of e)) (kids_of e)) (list_tests e ∙ so)
          ∙ list_nothing (kids_of e) (one [] e refl so) h
      | inr not_so ↦
          ap (λ b. if b then differences_in_list (map compared (kids_of e)) (kids_of e) else differences_among (map compared (kids_of e)) (kids_of e)) (list_tests e ∙ not_so)
          ∙ among_nothing (kids_of e) (differ [] e refl not_so) h
    ]

step : (e : Element) → Every Itself (kids_of e) → Itself e
unfolding Itself KidsConform
step e h differ one =
    let o = own_of e in
    let kids : KidsConform (kids_of e) = λ j k at. every_at Itself (kids_of e) j k h at (child_differs e j k at differ) (child_has_one e j k at one) in
    differences_out e e
    ∙ ap (λ b. if b then unless (same_types o.payload o.payload) (difference [] TypeDiffers) ++ unless (means_the_same o.common.semantics.semantic_id o.common.semantics.semantic_id) (difference [] SemanticDiffers) ++ differences_below o.payload (map compared (kids_of e)) (kids_of e) else difference [] KindDiffers ∷ []) (kind_same o.payload)
    ∙ ap₂ (λ a b. a ++ b)
    (ap₂ (λ a b. a ++ b)
    (unless_holds (same_types o.payload o.payload) (difference [] TypeDiffers) (types_same o.payload))
    (unless_holds (means_the_same o.common.semantics.semantic_id o.common.semantics.semantic_id) (difference [] SemanticDiffers) (means o.common.semantics.semantic_id)))
    (below_nothing e differ one kids)

itself : (e : Element) → Itself e
itself = by_kids Itself step

-- ---- submodels

pub first_below : (d : Submodel) → SiblingsDiffer d → (j : ℕ) (k : Element) → slice_get d.kids j ≡ Some k → DifferBelow k
first_below d siblings j k at = λ q m there not_so. siblings.below (j ∷ q) m (ap (λ o. option_and_then (element_in q) o) at ∙ there) not_so

pub conform_to_themselves : ConformToThemselves
unfolding Itself KidsConform ListsHaveOne
conform_to_themselves d faultless one =
    let siblings = siblings_differ d faultless in
    let kids : KidsConform d.kids = λ j k at.
    itself k (first_below d siblings j k at) (λ q m there so. one (j ∷ q) m (ap (λ o. option_and_then (element_in q) o) at ∙ there) so) in
    ap₂ (λ a b. a ++ b) (unless_holds _ _ (means d.semantics.semantic_id)) (among_nothing d.kids siblings.first kids)
