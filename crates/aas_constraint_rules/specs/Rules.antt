-- The constraints of IDTA-01001-3-0 on submodel elements, AASd-002 to AASd-134, each a sentence about a place, and number 0, the lexical rules.
-- The wording is this profile's own where the standard leaves it open (014, 116, 128, 129).
use Rattle.std.specs.Prelude.{ℕ, Bool, true, false, not, ◌&&◌, ◌||◌, List, [], ◌∷◌, ◌++◌, bytes_eq, map, filter_map, Option, Some, None, is_some, is_none}
use Rattle.std.specs.List.{list_all, list_any}
use Rattle.aas_constraint_rules.specs.Decided.{has_form, is_name, is_string}
use Rattle.aas_model_names.specs.ElementNameNames as element_name
use Rattle.aas_model_names.specs.KindNames as kind
use Rattle.aas_model_names.specs.ValueTypeNames as value_type_name
use Rattle.aas_model_names.specs.declared.kind.ElementName.{ElementName}
use Rattle.aas_model_names.specs.declared.kind.ElementName.TheVariants as e
use Rattle.aas_model_names.specs.declared.enumerations.EntityType.{EntityType}
use Rattle.aas_model_names.specs.declared.enumerations.EntityType.TheVariants as entity
use Rattle.aas_model_names.specs.declared.kind.Kind.{Kind}
use Rattle.aas_model_names.specs.declared.kind.Kind.TheVariants as k
use Rattle.aas_model_names.specs.declared.enumerations.QualifierKind.{QualifierKind}
use Rattle.aas_model_names.specs.declared.enumerations.QualifierKind.TheVariants as qualifier_kind
use Rattle.aas_model_names.specs.declared.value_type.ValueType.{ValueType}
use Rattle.aas_reference.specs.Rules.{Rule, row, if_any, is_external, levels_of}
use Rattle.aas_reference.specs.Same.{same}
use Rattle.aas_json_spelling.specs.Lists.{is_any}
use Rattle.aas_model.specs.Payload.{kind_of, is_operation}
use Rattle.aas_model.specs.declared.reference.Semantics.{Semantics}
use Rattle.aas_model.specs.declared.parts.Qualifier.{Qualifier}
use Rattle.aas_model.specs.declared.reference.Reference.{Reference, out-Reference}
use Rattle.aas_model.specs.declared.payload.Payload.{Payload}
use Rattle.aas_model.specs.declared.payload.Payload.TheVariants as p
use Rattle.aas_constraint_rules.specs.Sites.{Own, Site, stands_in_list}
use Rattle.aas_constraint_rules.specs.Attributes.{Seen, seen_of, references_of, all_texts}
use Rattle.aas_constraint_rules.specs.Texts.{is_among, all_differ}
use Rattle.aas_constraint_rules.specs.Lexical.{seen_has_form, payload_has_form, reference_has_form}
use Rattle.aas_constraint_rules.specs.Sentences.{Sentence, about, about_references, holds_of, rules_on_references}

-- ---- words

abbrev pub name_of : Own → Option (List ℕ)
name_of o = o.common.id_short

abbrev pub semantics_of : Own → Option Reference
semantics_of o = o.common.semantics.semantic_id

abbrev pub first_some : {X : Type 0} → List (Option X) → Option X
first_some [] = None
first_some (None ∷ xs) = first_some xs
first_some (Some x ∷ xs) = Some x

abbrev pub stands_in_operation : Option Own → Bool
stands_in_operation None = false
stands_in_operation (Some o) = is_operation o.payload

-- both are the same reference, or one isn't there
abbrev pub agree : Option Reference → Option Reference → Bool
agree None y = true
agree (Some x) None = true
agree (Some x) (Some y) = same x y

-- an earlier sibling has its name
abbrev pub is_repeat : List Own → Option (List ℕ) → Bool
is_repeat before None = false
is_repeat before (Some name) = is_among name (filter_map name_of before)

abbrev pub is_template_qualifier : Qualifier → Bool
is_template_qualifier q = if_template q.kind
  where
    if_template : Option QualifierKind → Bool
    if_template (Some qualifier_kind.TemplateQualifier) = true
    if_template _ = false

-- ---- sentences about any document or element

-- 002: the idShort is an ASCII letter followed by ASCII letters, digits and _
abbrev pub id_short_is_name : Seen → Bool
id_short_is_name x = if_any is_name x.id_short

-- 020: each Qualifier's value is of its valueType
abbrev pub qualifiers_have_form : Seen → Bool
qualifiers_have_form x = list_all (λ q. if_any (has_form q.value_type) q.value) x.qualifiers

-- 021: no two Qualifiers have one type
abbrev pub qualifiers_differ : Seen → Bool
qualifiers_differ x = all_differ (map (λ q. q.qualifier_type) x.qualifiers)

-- 077: no two Extensions have one name
abbrev pub extensions_differ : Seen → Bool
extensions_differ x = all_differ (map (λ a. a.name) x.extensions)

abbrev pub has_main_semantics : Semantics → Bool
has_main_semantics s = is_some s.semantic_id || is_none_there s.supplemental_semantic_ids
  where
    is_none_there : List Reference → Bool
    is_none_there [] = true
    is_none_there (r ∷ rs) = false

-- 118: no supplementalSemanticIds without a semanticId, on it and on its Qualifiers, Extensions and SpecificAssetIds
abbrev pub semantics_have_main : Seen → Bool
semantics_have_main x =
    list_all has_main_semantics x.semantics
    && list_all (λ q. has_main_semantics q.semantics) x.qualifiers
    && list_all (λ a. has_main_semantics a.semantics) x.extensions
    && list_all (λ a. has_main_semantics a.semantics) x.specific_asset_ids

-- 130: every text of its attributes has only the characters that XML allows, and so has the value of each key of its references
abbrev pub texts_are_strings : Seen → Bool
texts_are_strings x = list_all is_string (all_texts x)

abbrev pub reference_is_string : Reference → Bool
reference_is_string r = list_all (λ x. list_all (λ k. is_string k.value) x.keys) (levels_of r)

-- 133: each externalSubjectId is an ExternalReference
abbrev pub subjects_are_external : Seen → Bool
subjects_are_external x = list_all (λ a. if_any (λ r. is_external (out-Reference r).ref_type) a.external_subject_id) x.specific_asset_ids

-- ---- sentences about an element alone

-- 0
abbrev pub element_has_form : Own → Bool
element_has_form o = seen_has_form (seen_of o) && payload_has_form o.payload

-- 014: a SelfManagedEntity has a globalAssetId or a specificAssetId, a CoManagedEntity neither
abbrev pub is_managed : Payload → Bool
is_managed (p.Entity t g ids) = if_any (λ x. by_type x (is_some g || is_any ids)) t
  where
    by_type : EntityType → Bool → Bool
    by_type entity.SelfManagedEntity there = there
    by_type entity.CoManagedEntity there = not there
is_managed _ = true

-- ---- sentences about an element at its place

-- 022: outside Operations no earlier sibling has its idShort
abbrev pub name_is_new : Site → Bool
name_is_new x = stands_in_operation x.above || not (is_repeat x.before (name_of x.own))

-- ---- what a list demands of its children

abbrev pub list_semantics : Payload → Option Reference
list_semantics (p.SubmodelElementList o s t v) = s
list_semantics _ = None

abbrev pub list_type : Payload → Option ElementName
list_type (p.SubmodelElementList o s t v) = Some t
list_type _ = None

abbrev pub list_value_type : Payload → Option ValueType
list_value_type (p.SubmodelElementList o s t v) = v
list_value_type _ = None

abbrev pub of_parent : {X : Type 0} → (Payload → Option X) → Option Own → Option X
of_parent demand None = None
of_parent demand (Some o) = demand o.payload

-- 107: in a list its semanticId is the list's semanticIdListElement, or one of them isn't there
abbrev pub has_list_semantics : Site → Bool
has_list_semantics x = agree (of_parent list_semantics x.above) (semantics_of x.own)

-- typeValueListElement admits a kind: its own name, SubmodelElement, DataElement or EventElement for their kinds, RelationshipElement also for the annotated one
abbrev pub type_admits : ElementName → Kind → Bool
type_admits e.SubmodelElement c = true
type_admits e.DataElement c = kind.is_data_element c
type_admits e.EventElement k.BasicEventElement = true
type_admits e.RelationshipElement k.AnnotatedRelationshipElement = true
type_admits t c = bytes_eq (element_name.name_of t) (kind.name_of c)

-- 108: in a list its kind is admitted by typeValueListElement
abbrev pub has_list_kind : Site → Bool
has_list_kind x = if_any (λ t. type_admits t (kind_of x.own.payload)) (of_parent list_type x.above)

-- the types of list that fix the valueType of their children
abbrev pub is_typed : ElementName → Bool
is_typed e.Property = true
is_typed e.Range = true
is_typed t = false

-- the valueType of a Property or Range
abbrev pub value_type_of : Payload → Option ValueType
value_type_of (p.Property t v i) = Some t
value_type_of (p.Range t min max) = Some t
value_type_of _ = None

abbrev pub same_type : Option ValueType → ValueType → Bool
same_type None u = true
same_type (Some t) u = bytes_eq (value_type_name.name_of t) (value_type_name.name_of u)

-- 109: a list of Property or Range has a valueTypeListElement, and a Property or Range in it has that valueType
abbrev pub list_is_typed : Payload → Bool
list_is_typed o = not (if_none false is_typed (list_type o)) || is_some (list_value_type o)
  where
    if_none : Bool → (ElementName → Bool) → Option ElementName → Bool
    if_none b test None = b
    if_none b test (Some t) = test t

abbrev pub child_is_typed : Option Own → Payload → Bool
child_is_typed above o = if_any (λ t. not (is_typed t) || if_any (same_type (of_parent list_value_type above)) (value_type_of o)) (of_parent list_type above)

abbrev pub has_list_value_type : Site → Bool
has_list_value_type x = list_is_typed x.own.payload && child_is_typed x.above x.own.payload

-- 114: in a list its semanticId is that of the first child that has one, or it has none
abbrev pub has_first_semantics : Site → Bool
has_first_semantics x = not (stands_in_list x.above) || agree (first_some (map semantics_of x.before)) (semantics_of x.own)

-- 117: it has an idShort, or stands in a list
abbrev pub is_named : Site → Bool
is_named x = is_some (name_of x.own) || stands_in_list x.above

-- 120: in a list it has no idShort
abbrev pub is_unnamed_in_list : Site → Bool
is_unnamed_in_list x = not (stands_in_list x.above) || is_none (name_of x.own)

-- 129: it has no Qualifier of kind TemplateQualifier, or its submodel has kind Template
abbrev pub has_template_qualifier : List Qualifier → Bool
has_template_qualifier qs = list_any is_template_qualifier qs

abbrev pub is_template_or_none : Site → Bool
is_template_or_none x = x.in_template || not (has_template_qualifier x.own.common.qualifiers)

-- 134: among the variables of an Operation no earlier one has its idShort
abbrev pub variable_is_new : Site → Bool
variable_is_new x = not (stands_in_operation x.above) || not (is_repeat x.before (name_of x.own))

-- ---- the table

-- a sentence is local, about the element alone, or placed, about the place where it stands
pub data ElementSentence : Type 0 where
  local : Sentence Own → ElementSentence
  placed : (Site → Bool) → ElementSentence

abbrev pub holds : ElementSentence → Site → Bool
holds (local s) x = holds_of (references_of x.own) x.own s
holds (placed test) x = test x

-- what is wanted of the element alone
abbrev pub holds_locally : ElementSentence → Own → Bool
holds_locally (local s) o = holds_of (references_of o) o s
holds_locally (placed test) o = true

-- a sentence about what is seen of the element
abbrev pub seen : (Seen → Bool) → ElementSentence
seen test = local (about (λ o. test (seen_of o)))

abbrev pub rules : List (Rule ElementSentence)
rules =
    row 0 (local (record { itself = element_has_form; each_reference = reference_has_form }))
    ∷ row 2 (seen id_short_is_name)
    ∷ row 14 (local (about (λ o. is_managed o.payload)))
    ∷ row 20 (seen qualifiers_have_form)
    ∷ row 21 (seen qualifiers_differ)
    ∷ row 22 (placed name_is_new)
    ∷ row 77 (seen extensions_differ)
    ∷ row 107 (placed has_list_semantics)
    ∷ row 108 (placed has_list_kind)
    ∷ row 109 (placed has_list_value_type)
    ∷ row 114 (placed has_first_semantics)
    ∷ row 117 (placed is_named)
    ∷ row 118 (seen semantics_have_main)
    ∷ row 120 (placed is_unnamed_in_list)
    ∷ rules_on_references (λ test. local (about_references test))
    ++ row 129 (placed is_template_or_none)
    ∷ row 130 (local (record { itself = λ o. texts_are_strings (seen_of o); each_reference = reference_is_string }))
    ∷ row 133 (seen subjects_are_external)
    ∷ row 134 (placed variable_is_new)
    ∷ []
