-- What the definitions say of a few references.
use Rattle.std.specs.Prelude.{◌≡◌, ℕ, List, [], ◌∷◌, true, false, if◌then◌else◌, codes, refl, Option, Some, None}
use Rattle.std.specs.Prelude.{Result, Ok}
use Rattle.std.specs.List.{list_all, list_any}
use Rattle.aas_model.specs.Common.{no_attributes}
use Rattle.aas_constraint_rules.specs.Sites.{Own, of_payload}
use Rattle.aas_model.specs.declared.path.PathStep.TheVariants.{Name, Place}
use Rattle.aas_model.specs.declared.payload.Payload.{Payload}
use Rattle.aas_model.specs.declared.payload.Payload.TheVariants as p
use Rattle.aas_model.specs.declared.reference.Key.{Key}
use Rattle.aas_model.specs.declared.reference.Reference.{Reference}
use Rattle.aas_model_names.specs.declared.collection.Collection.TheVariants.{Submodels}
use Rattle.aas_model_names.specs.declared.kind.ElementName.TheVariants as element_name
use Rattle.aas_model_names.specs.declared.kind.KeyType.{KeyType}
use Rattle.aas_model_names.specs.declared.kind.KeyType.TheVariants as key_type
use Rattle.aas_model_names.specs.declared.kind.Kind.{Kind}
use Rattle.aas_model_names.specs.declared.kind.Kind.TheVariants as kind
use Rattle.aas_model_names.specs.declared.value_type.ValueType.TheVariants as value_type
use Rattle.aas_store.specs.declared.spot.Spot.{Spot}
use Rattle.aas_resolve.specs.Held.{held_by_element}
use Rattle.aas_resolve.specs.Resolved.{admits, along, is_list, lost, step_spelled}
use Rattle.aas_resolve.specs.declared.target.Target.{Target}
use Rattle.aas_resolve.specs.declared.target.Unresolved.{Unresolved}

-- ---- places in a list

pub leading_zeros : step_spelled true (codes "007") ≡ Some (Place 7)
leading_zeros = refl

pub nothing_is_no_place : step_spelled true [] ≡ None
nothing_is_no_place = refl

pub sign_is_no_digit : step_spelled true (codes "+7") ≡ None
sign_is_no_digit = refl

pub name_elsewhere : step_spelled false (codes "7") ≡ Some (Name (codes "7"))
name_elsewhere = refl

-- ---- types of later keys

-- what a later key of each type may name: its own class, a subclass, an annotated relationship, any element
pub admitted : list_all (λ (e : KeyType × Kind). admits e.0 e.1) (
    (key_type.Property, kind.Property)
    ∷ (key_type.DataElement, kind.Blob)
    ∷ (key_type.RelationshipElement, kind.AnnotatedRelationshipElement)
    ∷ (key_type.EventElement, kind.BasicEventElement)
    ∷ (key_type.Referable, kind.Entity)
    ∷ [])
    ≡ true
admitted = refl

-- and what it may not: another class, one that is no subclass, a superclass, what no element has for its class
pub not_admitted : list_any (λ (e : KeyType × Kind). admits e.0 e.1) (
    (key_type.Property, kind.Range)
    ∷ (key_type.DataElement, kind.Capability)
    ∷ (key_type.AnnotatedRelationshipElement, kind.RelationshipElement)
    ∷ (key_type.Identifiable, kind.Entity)
    ∷ [])
    ≡ false
not_admitted = refl

-- ---- keys behind that of a submodel: L leads to a list of rank 4, and 0 from there to its first child

abbrev key : KeyType → List ℕ → Key
key t value = record { key_type = t; value = value }

abbrev l : Key
l = key key_type.SubmodelElementList (codes "L")

abbrev first : Key
first = key key_type.Property (codes "0")

abbrev page : Key
page = key key_type.FragmentReference (codes "page=1")

abbrev child_by_spot : Option Spot → Option Spot
child_by_spot None = Some (record { rank = 4; kind = kind.SubmodelElementList })
child_by_spot (Some s) = if is_list s.kind then Some (record { rank = 5; kind = kind.Property }) else None

abbrev led : List Key → Result Target Unresolved
led ks = along (λ at k. child_by_spot at) Submodels 1 None ks

abbrev at : Option ℕ → Result Target Unresolved
at rank = Ok (record { collection = Submodels; rank = rank })

pub submodel_itself : led [] ≡ at None
submodel_itself = refl

pub one_step : led (l ∷ []) ≡ at (Some 4)
one_step = refl

pub two_steps : led (l ∷ first ∷ []) ≡ at (Some 5)
two_steps = refl

-- the submodel's key is key 0 of the reference
pub lost_step : led (l ∷ first ∷ first ∷ []) ≡ lost 3
lost_step = refl

pub fragment_stays : led (l ∷ first ∷ page ∷ []) ≡ at (Some 5)
fragment_stays = refl

pub fragment_of_the_submodel : led (page ∷ []) ≡ at None
fragment_of_the_submodel = refl

-- ---- references in the order of canonical text

abbrev element : Option Reference → List Reference → Payload → Own
element main others payload = record (of_payload payload) {
  common = record no_attributes { semantics = record { semantic_id = main; supplemental_semantic_ids = others } };
}

-- first, second, semanticId, supplementalSemanticIds
pub of_a_relationship : (a b c d e : Reference)
    → held_by_element (element (Some c) (d ∷ e ∷ []) (p.RelationshipElement (Some a) (Some b))) ≡ a ∷ b ∷ c ∷ d ∷ e ∷ []
of_a_relationship a b c d e = refl

-- semanticId, semanticIdListElement, supplementalSemanticIds
pub of_a_list : (a b c : Reference)
    → held_by_element (element (Some a) (c ∷ []) (p.SubmodelElementList None (Some b) element_name.Property None))
    ≡ a ∷ b ∷ c ∷ []
of_a_list a b c = refl

-- semanticId, supplementalSemanticIds, valueId
pub of_a_property : (a b c : Reference)
    → held_by_element (element (Some a) (b ∷ []) (p.Property value_type.Int None (Some c))) ≡ a ∷ b ∷ c ∷ []
of_a_property a b c = refl
