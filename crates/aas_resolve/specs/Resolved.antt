-- To what a reference leads in some documents (IDTA-01001-3-0, classes Reference and Key, enumeration KeyTypes): its
-- first key names a document, and each later key a child of what the keys before it lead to. This profile's own rules
-- are: the order in which Identifiable looks through the collections; that an idShort leads to the first child that has
-- it; that under a SubmodelElementList a place is any count of ASCII digits, at least one; that a FragmentReference
-- leads nowhere but as the last key, where it stays; and that an ExternalReference, as a reference without keys, leads
-- nowhere at key 0.
use Rattle.std.specs.Prelude.{ℕ, ◌+◌, ◌-◌, ◌^◌, min, Bool, true, false, if◌then◌else◌, List, [], ◌∷◌, bytes_eq, Option}
use Rattle.std.specs.Prelude.{Some, None, option_and_then, option_map, Result, Ok, Err}
use Rattle.std.specs.FinMap as map
use Rattle.std.specs.List.{find, list_all}
use Rattle.std.specs.Option.{option_map_or}
use Rattle.std.specs.Str.{encode_utf8_all}
use Rattle.std.specs.Str.Parse.{digits_value}
use Rattle.aas_model.specs.declared.documents.Submodel.{Submodel}
use Rattle.aas_model.specs.declared.path.PathStep.{PathStep}
use Rattle.aas_model.specs.declared.path.PathStep.TheVariants.{Name, Place}
use Rattle.aas_model.specs.declared.reference.Key.{Key}
use Rattle.aas_model.specs.declared.reference.Reference.{Reference, out-Reference}
use Rattle.aas_model_names.specs.KeyTypeNames as key_names
use Rattle.aas_model_names.specs.KindNames as kind_names
use Rattle.aas_model_names.specs.declared.collection.Collection.{Collection}
use Rattle.aas_model_names.specs.declared.collection.Collection.TheVariants.{Shells, Submodels, Concepts}
use Rattle.aas_model_names.specs.declared.kind.KeyType.{KeyType}
use Rattle.aas_model_names.specs.declared.kind.KeyType.TheVariants as key_type
use Rattle.aas_model_names.specs.declared.kind.Kind.{Kind}
use Rattle.aas_model_names.specs.declared.kind.Kind.TheVariants as kind
use Rattle.aas_reference.specs.Rules.{is_digit, is_external, is_fragment}
use Rattle.aas_store.specs.Documents.{Documents, Identifier, has}
use Rattle.aas_store.specs.Spots.{spot_below}
use Rattle.aas_store.specs.declared.spot.Spot.{Spot}
use Rattle.aas_resolve.specs.declared.target.Target.{Target}
use Rattle.aas_resolve.specs.declared.target.Unresolved.{Unresolved}

-- ---- the document

-- the collections in which a first key of a type may name a document, in the order in which they are looked through
abbrev pub collections_of : KeyType → List Collection
collections_of key_type.AssetAdministrationShell = Shells ∷ []
collections_of key_type.Submodel = Submodels ∷ []
collections_of key_type.ConceptDescription = Concepts ∷ []
collections_of key_type.Identifiable = Shells ∷ Submodels ∷ Concepts ∷ []
collections_of t = []

-- the collection in which a first key names a document
abbrev pub collection_named : Documents → Key → Option Collection
collection_named m k = find (λ c. has c (encode_utf8_all k.value) m) (collections_of k.key_type)

-- ---- its elements

-- a later key of the type may name an element of the kind: of its own class or of a subclass
abbrev pub admits : KeyType → Kind → Bool
admits key_type.Referable c = true
admits key_type.SubmodelElement c = true
admits key_type.DataElement c = kind_names.is_data_element c
admits key_type.EventElement kind.BasicEventElement = true
admits key_type.RelationshipElement kind.AnnotatedRelationshipElement = true
admits t c = bytes_eq (key_names.name_of t) (kind_names.name_of c)

-- the number that ASCII digits spell
abbrev pub number : List ℕ → Option ℕ
number [] = None
number (c ∷ cs) = if list_all is_digit (c ∷ cs) then Some (digits_value 10 (c ∷ cs)) else None

-- the step to a child that the value of a key spells: a place in a SubmodelElementList, and elsewhere an idShort
abbrev pub step_spelled : Bool → List ℕ → Option PathStep
step_spelled true value = option_map (λ n. Place n) (number value)
step_spelled false value = Some (Name value)

-- the same step, or that to the greatest place of 64 bits where its place is above that
abbrev pub capped : PathStep → PathStep
capped (Name name) = Name name
capped (Place n) = Place (min (2 ^ 64 - 1) n)

abbrev pub is_list : Kind → Bool
is_list kind.SubmodelElementList = true
is_list c = false

-- What keys have led to is an element, or none: then it is the document itself.
abbrev pub rank_of : Option Spot → Option ℕ
rank_of at = option_map (λ s. s.rank) at

abbrev pub is_list_at : Option Spot → Bool
is_list_at at = option_map_or (λ s. is_list s.kind) at false

abbrev pub if_admitted : KeyType → Spot → Option Spot
if_admitted t s = if admits t s.kind then Some s else None

-- the child that a key names
abbrev pub child_named : Submodel → Option Spot → Key → Option Spot
child_named d at k =
    option_and_then (λ s. option_and_then (if_admitted k.key_type) (spot_below d (rank_of at) s))
    (step_spelled (is_list_at at) k.value)

-- the child that a key names in the document of an identifier; a shell and a concept description have none
abbrev pub child_of : Documents → Collection → Identifier → Option Spot → Key → Option Spot
child_of m Submodels id at k = option_and_then (λ d. child_named d at k) (map.get m.submodels id)
child_of m c id at k = None

-- ---- the whole reference

abbrev pub lost : ℕ → Result Target Unresolved
lost n = Err (record { key = n })

abbrev pub target_at : Collection → Option Spot → Result Target Unresolved
target_at c at = Ok (record { collection = c; rank = rank_of at })

-- a key stays where those before it lead to, if it is a FragmentReference and none follows
abbrev pub stays : Key → List Key → Bool
stays k [] = is_fragment k.key_type
stays k (next ∷ ks) = false

-- to what keys lead, from what those before them have led to, by the child that each of them names;
-- the first of them is the n-th of the reference
abbrev pub along : (Option Spot → Key → Option Spot) → Collection
    → ℕ → Option Spot → List Key → Result Target Unresolved
along child c n at [] = target_at c at
along child c n at (k ∷ ks) =
    if stays k ks then target_at c at else option_map_or (λ s. along child c (n + 1) (Some s) ks) (child at k) (lost n)

abbrev pub resolved_by : Documents → List Key → Result Target Unresolved
resolved_by m [] = lost 0
resolved_by m (k ∷ ks) =
    option_map_or (λ c. along (child_of m c (encode_utf8_all k.value)) c 1 None ks) (collection_named m k) (lost 0)

-- the target of a reference, or its first key that leads nowhere
abbrev pub resolved : Documents → Reference → Result Target Unresolved
resolved m r = if is_external (out-Reference r).ref_type then lost 0 else resolved_by m (out-Reference r).keys
