-- The concept descriptions that some references take along: each that one of them names, and each that an isCaseOf reference of one that is
-- taken along names. This profile's own rule.
use Rattle.std.specs.Prelude.{◌≡◌, ◌&&◌, ◌||◌, Bool, true, false, List, [], ◌∷◌, if◌then◌else◌, Option, Some, None}
use Rattle.std.specs.Prelude.{Contains}
use Rattle.std.proofs.Common.{refl, sym, ◌∙◌, subst, inl, inr, true≢false}
use Rattle.std.proofs.lemmas.Option.{same_Some}
use Rattle.std.specs.Cmp.Lexicographic.{slice_cmp}
use Rattle.std.specs.FinMap as map
use Rattle.std.specs.FinMap.{contains_key-keys, nat_cmp-IsAntisymmetric, slice_cmp-IsAntisymmetric}
use Rattle.std.specs.List.{cons_option, filter_map, list_any}
use Rattle.std.specs.Option.{option_map_or}
use Rattle.std.specs.Ordering.{eq_by_cmp, is_eq, nat_cmp}
use Rattle.std.specs.Str.{encode_utf8_all}
use Rattle.aas_model.specs.declared.documents.Concept.{Concept}
use Rattle.aas_model.specs.declared.reference.Key.{Key}
use Rattle.aas_model.specs.declared.reference.Reference.{Reference, out-Reference}
use Rattle.aas_model_names.specs.declared.collection.Collection.TheVariants.{Concepts}
use Rattle.aas_model_names.specs.declared.kind.KeyType.{KeyType}
use Rattle.aas_model_names.specs.declared.kind.KeyType.TheVariants as key_type
use Rattle.aas_store.specs.Documents.{Documents, Identifier, Map, has, ids}
use Rattle.aas_serialization.specs.Reached.{contains_cases, contains_first, contains_more, contains_none, equal_from}
use Rattle.aas_serialization.specs.Reached.{reached, reached_is, same_reached}
use Rattle.aas_serialization.specs.Reaches.{IsIn, IsReached, Set}

-- ---- what a reference names

-- a key of the type may name a concept description
abbrev pub names_concepts : KeyType → Bool
names_concepts key_type.ConceptDescription = true
names_concepts key_type.Identifiable = true
names_concepts key_type.GlobalReference = true
names_concepts t = false

-- the concept description that keys name: there is one key, and its value is the identifier of one that is stored
abbrev pub named_by_keys : Documents → List Key → Option Identifier
named_by_keys m (k ∷ []) =
    if names_concepts k.key_type && has Concepts (encode_utf8_all k.value) m then Some (encode_utf8_all k.value)
    else None
named_by_keys m ks = None

abbrev pub concept_named : Documents → Reference → Option Identifier
concept_named m r = named_by_keys m (out-Reference r).keys

abbrev pub concepts_named : Documents → List Reference → List Identifier
concepts_named m rs = filter_map (concept_named m) rs

-- those that the isCaseOf references of a concept description name
abbrev pub cases_named : Documents → Identifier → List Identifier
cases_named m id = option_map_or (λ c. concepts_named m c.is_case_of) (map.get m.concepts id) []

-- ---- what is taken along

-- the set has exactly what is taken along: there is one such set
abbrev pub IsClosure : Documents → List Reference → Set → Type 0
IsClosure m roots s = IsReached (cases_named m) (concepts_named m roots) s

-- ---- there is such a set

same_id : (p q : Identifier) → is_eq (slice_cmp nat_cmp p q) ≡ true → p ≡ q
same_id p q e = slice_cmp-IsAntisymmetric nat_cmp-IsAntisymmetric p q (equal_from (slice_cmp nat_cmp p q) e)

found_among : (id : Identifier) (all : List Identifier) → list_any (eq_by_cmp (slice_cmp nat_cmp) id) all ≡ true
    → Contains all id
found_among id [] found = absurd (true≢false (sym found))
found_among id (x ∷ xs) found = by (found_among id xs) (is_eq (slice_cmp nat_cmp id x)) refl found
  where
    by : (list_any (eq_by_cmp (slice_cmp nat_cmp) id) xs ≡ true → Contains xs id) → (b : Bool)
        → is_eq (slice_cmp nat_cmp id x) ≡ b → b || list_any (eq_by_cmp (slice_cmp nat_cmp) id) xs ≡ true
        → Contains (x ∷ xs) id
    by rest true is found = subst (λ (x : Identifier). Contains (x ∷ xs) id) (same_id id x is) (contains_first id xs)
    by rest false is found = contains_more x id xs (rest found)

-- what is in a map is among its keys
pub is_key : {X : Type 0} (m : Map X) (id : Identifier) → IsIn m id → Contains (map.keys m) id
is_key m id has = found_among id (map.keys m) (sym (contains_key-keys m id) ∙ has)

named_is_known : (m : Documents) (ks : List Key) (id : Identifier) → named_by_keys m ks ≡ Some id → IsIn m.concepts id
named_is_known m [] id is = absurd (cc)
named_is_known m (k ∷ l ∷ ks) id is = absurd (cc)
named_is_known m (k ∷ []) id is = by (names_concepts k.key_type) (has Concepts (encode_utf8_all k.value) m) refl is
  where
    by : (a b : Bool) → has Concepts (encode_utf8_all k.value) m ≡ b
        → (if a && b then Some (encode_utf8_all k.value) else None) ≡ Some id → IsIn m.concepts id
    by true true there is = subst (λ id. IsIn m.concepts id) (same_Some (encode_utf8_all k.value) id is) there
    by true false there is = absurd (cc)
    by false b there is = absurd (cc)

pub concept_is_known : (m : Documents) (r : Reference) (id : Identifier) → concept_named m r ≡ Some id
    → Contains (ids Concepts m) id
concept_is_known m r id is = is_key m.concepts id (named_is_known m (out-Reference r).keys id is)

pub named_are_known : (m : Documents) (rs : List Reference) (id : Identifier) → Contains (concepts_named m rs) id
    → Contains (ids Concepts m) id
named_are_known m [] id has = absurd (contains_none id has)
named_are_known m (r ∷ rs) id has = by (named_are_known m rs id) (concept_named m r) refl has
  where
    by : (Contains (concepts_named m rs) id → Contains (ids Concepts m) id) → (o : Option Identifier)
        → concept_named m r ≡ o → Contains (cons_option o (concepts_named m rs)) id → Contains (ids Concepts m) id
    by rest None is has = rest has
    by rest (Some first) is has = elim (contains_cases first id (concepts_named m rs) has) [
      | inl same ↦ subst (λ id. Contains (ids Concepts m) id) same (concept_is_known m r first is)
      | inr later ↦ rest later
    ]

cases_are_known : (m : Documents) (from id : Identifier) → Contains (cases_named m from) id
    → Contains (ids Concepts m) id
cases_are_known m from id has = by (map.get m.concepts from) has
  where
    by : (o : Option Concept) → Contains (option_map_or (λ c. concepts_named m c.is_case_of) o []) id
        → Contains (ids Concepts m) id
    by None has = absurd (contains_none id has)
    by (Some c) has = named_are_known m c.is_case_of id has

-- what the references take along: all that is known of it stands in the two lemmas behind it
pub concept_closure : Documents → List Reference → Set
concept_closure m roots = reached (cases_named m) (concepts_named m roots) (ids Concepts m) (cases_are_known m)
    (named_are_known m roots)

pub concept_closure_is : (m : Documents) (roots : List Reference) → IsClosure m roots (concept_closure m roots)
unfolding concept_closure
concept_closure_is m roots = reached_is (cases_named m) (concepts_named m roots) (ids Concepts m) (cases_are_known m)
    (named_are_known m roots)

pub same_closure : (m : Documents) (roots : List Reference) (s : Set) → IsClosure m roots s
    → s ≡ concept_closure m roots
same_closure m roots s is = same_reached (cases_named m) (concepts_named m roots) s (concept_closure m roots) is
    (concept_closure_is m roots)
