-- How submodel elements are spelled in JSON: one line an attribute, kind by kind (IDTA-01001-3-0, SubmodelElement and its subclasses).
use Rattle.std.specs.Prelude.{ℕ, List, [], ◌∷◌, ◌++◌, Bool, true, false, codes, filter, Option, Some, option_map, unwrap_or}
use Rattle.serde_json.specs.Data.{Data, boolean, string}
use Rattle.aas_model_names.specs.DirectionNames as direction
use Rattle.aas_model_names.specs.ElementNameNames as element_name
use Rattle.aas_model_names.specs.EntityTypeNames as entity_type
use Rattle.aas_model_names.specs.KindNames as kind
use Rattle.aas_model_names.specs.StateOfEventNames as state_of_event
use Rattle.aas_model_names.specs.ValueTypeNames as value_type
use Rattle.aas_json_table.specs.Table.{Row, parts, operation_variable, element, model_types}
use Rattle.aas_json_table.specs.Rows.{find}
use Rattle.aas_json_table.specs.Spelled.{Attributes, spelled, text_of, list_of}
use Rattle.aas_json_spelling.specs.Kept.{spell_plain}
use Rattle.aas_reference.specs.Spelling.{spell_reference}
use Rattle.aas_json_mapping.specs.Parts.{semantics_attributes, spell_lang_text, spell_extension, spell_qualifier, spell_specific_asset_id}
use Rattle.aas_model.specs.declared.common.Common.{Common}
use Rattle.aas_model.specs.declared.element.Element.{Element, fold-Element}
use Rattle.aas_model.specs.declared.element.Element.TheOpen.{Element-F}
use Rattle.aas_model.specs.declared.element.Role.{Role}
use Rattle.aas_model.specs.declared.element.Role.TheVariants as role
use Rattle.aas_model.specs.declared.payload.Payload.{Payload}
use Rattle.aas_model.specs.declared.payload.Payload.TheVariants as p
use Rattle.aas_model.specs.Payload.{kind_of}

-- what every SubmodelElement has besides its modelType
abbrev pub common_attributes : Common → Attributes
common_attributes c =
    (codes "category", option_map text_of c.category)
    ∷ (codes "description", list_of spell_lang_text c.description)
    ∷ (codes "displayName", list_of spell_lang_text c.display_name)
    ∷ (codes "extensions", list_of spell_extension c.extensions)
    ∷ (codes "idShort", option_map text_of c.id_short)
    ∷ (codes "embeddedDataSpecifications", list_of spell_plain c.embedded_data_specifications)
    ∷ (codes "qualifiers", list_of spell_qualifier c.qualifiers)
    ∷ semantics_attributes c.semantics

-- a child that is spelled already
pub record Child : Type 0 where
  pub role : Role
  pub spelling : Data

abbrev pub is_input : Role → Bool
is_input role.Input = true
is_input r = false

abbrev pub is_output : Role → Bool
is_output role.Output = true
is_output r = false

abbrev pub is_inoutput : Role → Bool
is_inoutput role.Inoutput = true
is_inoutput r = false

-- OperationVariable
abbrev pub spell_variable : Child → Data
spell_variable c = spelled (parts operation_variable) ((codes "value", Some c.spelling) ∷ [])

abbrev pub children_attribute : List Child → Option Data
children_attribute kids = list_of (λ c. c.spelling) kids

-- the variables of an Operation that have a role
abbrev pub variables_attribute : (Role → Bool) → List Child → Option Data
variables_attribute has_role kids = list_of spell_variable (filter (λ c. has_role c.role) kids)

-- the members of a kind's own
abbrev pub own_attributes : Payload → List Child → Attributes
own_attributes (p.Property t v i) kids =
    (codes "valueType", Some (string (value_type.name_of t)))
    ∷ (codes "value", option_map text_of v)
    ∷ (codes "valueId", option_map spell_reference i)
    ∷ []
own_attributes (p.MultiLanguageProperty v i) kids =
    (codes "value", list_of spell_lang_text v)
    ∷ (codes "valueId", option_map spell_reference i)
    ∷ []
own_attributes (p.Range t min max) kids =
    (codes "valueType", Some (string (value_type.name_of t)))
    ∷ (codes "min", option_map text_of min)
    ∷ (codes "max", option_map text_of max)
    ∷ []
own_attributes (p.File t v) kids =
    (codes "contentType", option_map text_of t)
    ∷ (codes "value", option_map text_of v)
    ∷ []
own_attributes (p.Blob t v) kids =
    (codes "contentType", option_map text_of t)
    ∷ (codes "value", option_map text_of v)
    ∷ []
own_attributes (p.ReferenceElement v) kids =
    (codes "value", option_map spell_reference v)
    ∷ []
own_attributes (p.RelationshipElement first second) kids =
    (codes "first", option_map spell_reference first)
    ∷ (codes "second", option_map spell_reference second)
    ∷ []
own_attributes (p.AnnotatedRelationshipElement first second) kids =
    (codes "first", option_map spell_reference first)
    ∷ (codes "second", option_map spell_reference second)
    ∷ (codes "annotations", children_attribute kids)
    ∷ []
own_attributes (p.Entity t g ids) kids =
    (codes "entityType", option_map (λ x. string (entity_type.name_of x)) t)
    ∷ (codes "globalAssetId", option_map text_of g)
    ∷ (codes "specificAssetIds", list_of spell_specific_asset_id ids)
    ∷ (codes "statements", children_attribute kids)
    ∷ []
own_attributes (p.BasicEventElement observed d s topic broker last min max) kids =
    (codes "observed", option_map spell_reference observed)
    ∷ (codes "direction", Some (string (direction.name_of d)))
    ∷ (codes "state", Some (string (state_of_event.name_of s)))
    ∷ (codes "messageTopic", option_map text_of topic)
    ∷ (codes "messageBroker", option_map spell_reference broker)
    ∷ (codes "lastUpdate", option_map text_of last)
    ∷ (codes "minInterval", option_map text_of min)
    ∷ (codes "maxInterval", option_map text_of max)
    ∷ []
own_attributes p.Capability kids = []
own_attributes p.Operation kids =
    (codes "inputVariables", variables_attribute is_input kids)
    ∷ (codes "outputVariables", variables_attribute is_output kids)
    ∷ (codes "inoutputVariables", variables_attribute is_inoutput kids)
    ∷ []
own_attributes p.SubmodelElementCollection kids =
    (codes "value", children_attribute kids)
    ∷ []
own_attributes (p.SubmodelElementList o s t v) kids =
    (codes "orderRelevant", option_map boolean o)
    ∷ (codes "semanticIdListElement", option_map spell_reference s)
    ∷ (codes "typeValueListElement", Some (string (element_name.name_of t)))
    ∷ (codes "valueTypeListElement", option_map (λ x. string (value_type.name_of x)) v)
    ∷ (codes "value", children_attribute kids)
    ∷ []

abbrev pub model_type_of : Payload → List ℕ
model_type_of p = kind.name_of (kind_of p)

abbrev pub element_attributes : Common → Payload → List Child → Attributes
element_attributes c p kids = (codes "modelType", Some (string (model_type_of p))) ∷ common_attributes c ++ own_attributes p kids

-- the rows of an element with this modelType
abbrev pub rows_for : List ℕ → List Row
rows_for model_type = unwrap_or (find model_type (model_types element)) []

-- an element whose children are spelled already
abbrev pub spell_over : Element-F Child → Child
spell_over e = record { role = e.role; spelling = spelled (rows_for (model_type_of e.payload)) (element_attributes e.common e.payload e.kids) }

abbrev pub spelled_child : Element → Child
spelled_child = fold-Element Child spell_over

abbrev pub spell_element : Element → Data
spell_element e = (spelled_child e).spelling
