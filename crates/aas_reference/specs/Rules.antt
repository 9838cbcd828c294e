-- The constraints on references, AASd-121 to AASd-128 (IDTA-01001-3-0, class Reference), each a sentence about the type and the keys of a reference.
-- A reference within another, its referredSemanticId, keeps them too.
use Rattle.std.specs.Prelude.{ℕ, ◌&&◌, ◌||◌, not, nat_le, Bool, true, false, List, [], ◌∷◌, length, map, filter, Option, Some, None, unwrap_or}
use Rattle.std.specs.List.{list_all}
use Rattle.aas_model_names.specs.ElementNameNames as element_name
use Rattle.aas_model_names.specs.KeyTypeNames as key_type
use Rattle.aas_model_names.specs.declared.kind.KeyType.{KeyType}
use Rattle.aas_model_names.specs.declared.kind.KeyType.TheVariants as k
use Rattle.aas_model_names.specs.declared.enumerations.ReferenceType.{ReferenceType}
use Rattle.aas_model_names.specs.declared.enumerations.ReferenceType.TheVariants as r
use Rattle.aas_json_table.specs.Names.{has}
use Rattle.aas_model.specs.declared.reference.Key.{Key}
use Rattle.aas_model.specs.declared.reference.Reference.{Reference, fold-Reference}

-- a reference without the one within it
pub record Level : Type 0 where
  pub ref_type : ReferenceType
  pub keys : List Key

-- a reference and those within it, from the outside
abbrev pub levels_of : Reference → List Level
levels_of = fold-Reference (List Level) (λ x. record { ref_type = x.ref_type; keys = x.keys } ∷ unwrap_or x.referred [])

-- ---- words

abbrev pub first_key : List Key → Option KeyType
first_key [] = None
first_key (x ∷ xs) = Some x.key_type

abbrev pub last_key : List Key → Option KeyType
last_key [] = None
last_key (x ∷ []) = Some x.key_type
last_key (x ∷ y ∷ xs) = last_key (y ∷ xs)

abbrev pub later_keys : List Key → List Key
later_keys [] = []
later_keys (x ∷ xs) = xs

-- a test of each key and the key after it
abbrev pub each_pair : (Key → Key → Bool) → List Key → Bool
each_pair test [] = true
each_pair test (x ∷ []) = true
each_pair test (x ∷ y ∷ xs) = test x y && each_pair test (y ∷ xs)

-- a test of what is there, if anything is
abbrev pub if_any : {X : Type 0} → (X → Bool) → Option X → Bool
if_any test None = true
if_any test (Some x) = test x

abbrev pub is_external : ReferenceType → Bool
is_external r.ExternalReference = true
is_external r.ModelReference = false

abbrev pub is_identifiable : KeyType → Bool
is_identifiable k.AssetAdministrationShell = true
is_identifiable k.Submodel = true
is_identifiable k.ConceptDescription = true
is_identifiable k.Identifiable = true
is_identifiable t = false

abbrev pub is_global : KeyType → Bool
is_global k.GlobalReference = true
is_global t = false

abbrev pub is_fragment : KeyType → Bool
is_fragment k.FragmentReference = true
is_fragment t = false

abbrev pub is_file_or_blob : KeyType → Bool
is_file_or_blob k.File = true
is_file_or_blob k.Blob = true
is_file_or_blob t = false

abbrev pub is_list : KeyType → Bool
is_list k.SubmodelElementList = true
is_list t = false

-- SubmodelElement, its subclasses and their abstract classes
abbrev pub is_element : KeyType → Bool
is_element t = has element_name.names (key_type.name_of t)

abbrev pub is_digit : ℕ → Bool
is_digit c = nat_le 48 c && nat_le c 57

-- 1 to 9 ASCII digits
abbrev pub is_place : List ℕ → Bool
is_place s = nat_le 1 (length s) && nat_le (length s) 9 && list_all is_digit s

-- ---- the sentences

-- the first key is AssetAdministrationShell, Submodel, ConceptDescription, Identifiable or GlobalReference
abbrev pub begins_globally : Level → Bool
begins_globally x = if_any (λ t. is_identifiable t || is_global t) (first_key x.keys)

-- an ExternalReference begins with GlobalReference
abbrev pub external_begins : Level → Bool
external_begins x = not (is_external x.ref_type) || if_any is_global (first_key x.keys)

-- a ModelReference begins with AssetAdministrationShell, Submodel, ConceptDescription or Identifiable
abbrev pub model_begins : Level → Bool
model_begins x = is_external x.ref_type || if_any is_identifiable (first_key x.keys)

-- an ExternalReference ends with GlobalReference or FragmentReference
abbrev pub external_ends : Level → Bool
external_ends x = not (is_external x.ref_type) || if_any (λ t. is_global t || is_fragment t) (last_key x.keys)

-- in a ModelReference each key after the first is a kind of element or FragmentReference
abbrev pub model_goes_on : Level → Bool
model_goes_on x = is_external x.ref_type || list_all (λ y. is_element y.key_type || is_fragment y.key_type) (later_keys x.keys)

-- in a ModelReference FragmentReference is at most the last key
abbrev pub fragment_is_last : Level → Bool
fragment_is_last x = is_external x.ref_type || each_pair (λ y z. not (is_fragment y.key_type)) x.keys

-- in a ModelReference a key before FragmentReference is File or Blob
abbrev pub fragment_of_file : Level → Bool
fragment_of_file x = is_external x.ref_type || each_pair (λ y z. not (is_fragment z.key_type) || is_file_or_blob y.key_type) x.keys

-- in a ModelReference a key after SubmodelElementList has a value of 1 to 9 ASCII digits
abbrev pub list_by_place : Level → Bool
list_by_place x = is_external x.ref_type || each_pair (λ y z. not (is_list y.key_type) || is_place z.value) x.keys

-- ---- the table

-- a rule: its number, and its sentence
pub record Rule (S : Type 0) : Type 0 where
  pub number : ℕ
  pub sentence : S

abbrev pub row : {S : Type 0} → ℕ → S → Rule S
row n s = record { number = n; sentence = s }

abbrev pub reference_rules : List (Rule (Level → Bool))
reference_rules =
    row 121 begins_globally
    ∷ row 122 external_begins
    ∷ row 123 model_begins
    ∷ row 124 external_ends
    ∷ row 125 model_goes_on
    ∷ row 126 fragment_is_last
    ∷ row 127 fragment_of_file
    ∷ row 128 list_by_place
    ∷ []

-- the numbers of the rules whose sentences don't pass a test, in the order of the rules
abbrev pub failing : {S : Type 0} → (S → Bool) → List (Rule S) → List ℕ
failing test rules = map (λ r. r.number) (filter (λ r. not (test r.sentence)) rules)

-- the reference and those within it keep a sentence
abbrev pub keeps : (Level → Bool) → Reference → Bool
keeps sentence ref = list_all sentence (levels_of ref)

abbrev pub first : {X : Type 0} → List X → Option X
first [] = None
first (x ∷ xs) = Some x

-- the least number that a reference, or one within it, breaks
abbrev pub first_fault : Reference → Option ℕ
first_fault ref = first (failing (λ s. keeps s ref) reference_rules)
