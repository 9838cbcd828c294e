-- The environment of some chosen documents (IDTA-01002-3-0, Serialization Interface, GenerateSerializationByIds): each document that is asked
-- for, once, in the byte order of identifiers, and with them the concept descriptions that they take along, or none. The order, which document
-- is missing first, and what is taken along, are this profile's own rules.
use Rattle.std.specs.Prelude.{ℕ, Bool, not, List, ◌++◌, flat_map, if◌then◌else◌, Option, Some, None, option_map}
use Rattle.std.specs.Prelude.{Result, Ok, Err}
use Rattle.std.specs.FinMap as map
use Rattle.std.specs.List.{filter_map, find, fold}
use Rattle.std.specs.Option.{option_or}
use Rattle.std.specs.Str.{encode_utf8_all}
use Rattle.aas_model.specs.declared.documents.Environment.{Environment}
use Rattle.aas_model.specs.declared.reference.Reference.{Reference}
use Rattle.aas_model_names.specs.declared.collection.Collection.{Collection}
use Rattle.aas_model_names.specs.declared.collection.Collection.TheVariants.{Shells, Submodels}
use Rattle.aas_store.specs.Documents.{Documents, Map, has}
use Rattle.aas_serialization.specs.Closure.{concept_closure}
use Rattle.aas_serialization.specs.Reaches.{Set}
use Rattle.aas_serialization.specs.Roots.{shell_roots_at, submodel_roots_at}
use Rattle.aas_serialization.specs.declared.choice.Chosen.{Chosen}
use Rattle.aas_serialization.specs.declared.fault.GatherFault.{GatherFault}
use Rattle.aas_serialization.specs.declared.fault.GatherFault.TheVariants.{NoShell, NoSubmodel}

-- ---- sets of identifiers

abbrev pub with_text : Set → List ℕ → Set
with_text s text = map.insert s (encode_utf8_all text) tt

-- those of a list
abbrev pub set_of : List (List ℕ) → Set
set_of texts = fold with_text map.empty texts

-- the documents of a set's identifiers, in their order
abbrev pub documents_of : {D : Type 0} → Map D → Set → List D
documents_of m s = filter_map (map.get m) (map.keys s)

-- ---- what is chosen

-- the references that name concept descriptions, of all documents that are chosen
abbrev pub roots_of : Documents → Set → Set → List Reference
roots_of m shells submodels = flat_map (shell_roots_at m) (map.keys shells)
    ++ flat_map (submodel_roots_at m) (map.keys submodels)

abbrev pub concepts_along : Documents → Bool → Set → Set → Set
concepts_along m concepts shells submodels = if concepts then concept_closure m (roots_of m shells submodels)
    else map.empty

abbrev pub choice_of : Documents → List (List ℕ) → List (List ℕ) → Bool → Chosen
choice_of m shells submodels concepts = record {
  shells = set_of shells;
  submodels = set_of submodels;
  concepts = concepts_along m concepts (set_of shells) (set_of submodels);
}

abbrev pub chosen_environment : Documents → Chosen → Environment
chosen_environment m c = record {
  shells = documents_of m.shells c.shells;
  submodels = documents_of m.submodels c.submodels;
  concepts = documents_of m.concepts c.concepts;
}

-- ---- what is missing

-- the first of some identifiers that a collection hasn't
abbrev pub first_absent : Documents → Collection → List (List ℕ) → Option (List ℕ)
first_absent m c ids = find (λ id. not (has c (encode_utf8_all id) m)) ids

abbrev pub fault_of : Documents → List (List ℕ) → List (List ℕ) → Option GatherFault
fault_of m shells submodels =
    option_or (option_map (λ id. NoShell id) (first_absent m Shells shells))
    (option_map (λ id. NoSubmodel id) (first_absent m Submodels submodels))

abbrev pub unless : {A : Type 0} → Option GatherFault → A → Result A GatherFault
unless None a = Ok a
unless (Some fault) a = Err fault

-- ---- both

abbrev pub chosen : Documents → List (List ℕ) → List (List ℕ) → Bool → Result Chosen GatherFault
chosen m shells submodels concepts = unless (fault_of m shells submodels) (choice_of m shells submodels concepts)

abbrev pub gathered : Documents → List (List ℕ) → List (List ℕ) → Bool → Result Environment GatherFault
gathered m shells submodels concepts =
    unless (fault_of m shells submodels) (chosen_environment m (choice_of m shells submodels concepts))
