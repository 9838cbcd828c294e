-- The attribute table: the members that an object of each sort may have in JSON. It restates the class tables of the metamodel and the JSON mapping of
-- IDTA-01001-3-0; the comment of each sort names its class. A member that a sort lacks is refused. Which members have class V is this profile's own rule.
use Rattle.std.specs.Prelude.{ℕ, List, [], ◌∷◌, ◌++◌, Bool, true, false, codes, map, filter}
use Rattle.aas_model_names.specs.KindNames as kind
use Rattle.aas_json_table.specs.Names.{reference_types, key_types, value_types, element_names, modelling_kinds, asset_kinds, qualifier_kinds, entity_types, directions, states_of_event, has}

-- the sorts of object
pub data Sort : Type 0 where
  reference : Sort
  key : Sort
  lang_text : Sort
  extension : Sort
  qualifier : Sort
  specific_asset_id : Sort
  administration : Sort
  asset_information : Sort
  resource : Sort
  operation_variable : Sort
  environment : Sort
  shell : Sort
  submodel : Sort
  concept : Sort
  element : Sort
  data_element : Sort
  submodel_metadata : Sort
  element_metadata : Sort

-- What a value may be: a string, a truth value, a string that is one of some names, an object of a sort, an array of objects of a sort,
-- an array of kept data, or kept data: anything without numbers.
pub data MemberType : Type 0 where
  text : MemberType
  flag : MemberType
  word : List (List ℕ) → MemberType
  one : Sort → MemberType
  many : Sort → MemberType
  kept : MemberType
  plain : MemberType

-- m: shown in the metadata form; v: left out of it
pub data Class : Type 0 where
  m : Class
  v : Class

pub record Row : Type 0 where
  pub name : List ℕ
  pub member_type : MemberType
  pub required : Bool
  pub class : Class

abbrev pub optional : List ℕ → MemberType → Row
optional n f = record { name = n; member_type = f; required = false; class = m }

abbrev pub required : List ℕ → MemberType → Row
required n f = record { name = n; member_type = f; required = true; class = m }

-- the same row, of class V
abbrev pub valued : Row → Row
valued r = record r { class = v }

-- ---- what several classes have

-- HasSemantics
abbrev pub has_semantics : List Row
has_semantics =
    optional (codes "semanticId") (one reference)
    ∷ optional (codes "supplementalSemanticIds") (many reference)
    ∷ []

-- Qualifiable
abbrev pub qualifiable : List Row
qualifiable =
    optional (codes "qualifiers") (many qualifier)
    ∷ []

-- Referable, with HasExtensions, HasDataSpecification and the JSON mapping's modelType
abbrev pub referable : List Row
referable =
    optional (codes "category") text
    ∷ optional (codes "description") (many lang_text)
    ∷ optional (codes "displayName") (many lang_text)
    ∷ optional (codes "extensions") (many extension)
    ∷ optional (codes "idShort") text
    ∷ required (codes "modelType") text
    ∷ optional (codes "embeddedDataSpecifications") kept
    ∷ []

-- Identifiable
abbrev pub identifiable : List Row
identifiable =
    required (codes "id") text
    ∷ optional (codes "administration") (one administration)
    ∷ []

-- ---- parts: objects without a modelType

abbrev pub parts : Sort → List Row
-- Reference
parts reference =
    required (codes "type") (word reference_types)
    ∷ required (codes "keys") (many key)
    ∷ optional (codes "referredSemanticId") (one reference)
    ∷ []
-- Key
parts key =
    required (codes "type") (word key_types)
    ∷ required (codes "value") text
    ∷ []
-- AbstractLangString and its subclasses
parts lang_text =
    required (codes "language") text
    ∷ required (codes "text") text
    ∷ []
-- Extension
parts extension =
    required (codes "name") text
    ∷ optional (codes "valueType") (word value_types)
    ∷ optional (codes "value") text
    ∷ optional (codes "refersTo") (many reference)
    ∷ has_semantics
-- Qualifier
parts qualifier =
    optional (codes "kind") (word qualifier_kinds)
    ∷ required (codes "type") text
    ∷ required (codes "valueType") (word value_types)
    ∷ optional (codes "value") text
    ∷ optional (codes "valueId") (one reference)
    ∷ has_semantics
-- SpecificAssetId
parts specific_asset_id =
    required (codes "name") text
    ∷ required (codes "value") text
    ∷ optional (codes "externalSubjectId") (one reference)
    ∷ has_semantics
-- AdministrativeInformation
parts administration =
    optional (codes "version") text
    ∷ optional (codes "revision") text
    ∷ optional (codes "creator") (one reference)
    ∷ optional (codes "templateId") text
    ∷ optional (codes "embeddedDataSpecifications") kept
    ∷ []
-- AssetInformation
parts asset_information =
    required (codes "assetKind") (word asset_kinds)
    ∷ optional (codes "globalAssetId") text
    ∷ optional (codes "specificAssetIds") (many specific_asset_id)
    ∷ optional (codes "assetType") text
    ∷ optional (codes "defaultThumbnail") (one resource)
    ∷ []
-- Resource
parts resource =
    required (codes "path") text
    ∷ optional (codes "contentType") text
    ∷ []
-- OperationVariable
parts operation_variable =
    required (codes "value") (one element)
    ∷ []
-- Environment
parts environment =
    optional (codes "assetAdministrationShells") (many shell)
    ∷ optional (codes "submodels") (many submodel)
    ∷ optional (codes "conceptDescriptions") (many concept)
    ∷ []
parts shell = []
parts submodel = []
parts concept = []
parts element = []
parts data_element = []
parts submodel_metadata = []
parts element_metadata = []

-- ---- submodel elements: each modelType with the members of its own

abbrev pub kinds : List (List ℕ × List Row)
kinds = (
  codes "Property",
  required (codes "valueType") (word value_types)
      ∷ valued (optional (codes "value") text)
      ∷ optional (codes "valueId") (one reference)
      ∷ [],
)
    ∷ (
      codes "MultiLanguageProperty",
      valued (optional (codes "value") (many lang_text))
          ∷ optional (codes "valueId") (one reference)
          ∷ [],
    )
    ∷ (
      codes "Range",
      required (codes "valueType") (word value_types)
          ∷ valued (optional (codes "min") text)
          ∷ valued (optional (codes "max") text)
          ∷ [],
    )
    ∷ (
      codes "File",
      valued (required (codes "contentType") text)
          ∷ valued (optional (codes "value") text)
          ∷ [],
    )
    ∷ (
      codes "Blob",
      valued (required (codes "contentType") text)
          ∷ valued (optional (codes "value") text)
          ∷ [],
    )
    ∷ (
      codes "ReferenceElement",
      valued (optional (codes "value") (one reference))
          ∷ [],
    )
    ∷ (
      codes "RelationshipElement",
      valued (required (codes "first") (one reference))
          ∷ valued (required (codes "second") (one reference))
          ∷ [],
    )
    ∷ (
      codes "AnnotatedRelationshipElement",
      valued (required (codes "first") (one reference))
          ∷ valued (required (codes "second") (one reference))
          ∷ valued (optional (codes "annotations") (many data_element))
          ∷ [],
    )
    ∷ (
      codes "Entity",
      valued (required (codes "entityType") (word entity_types))
          ∷ valued (optional (codes "globalAssetId") text)
          ∷ valued (optional (codes "specificAssetIds") (many specific_asset_id))
          ∷ valued (optional (codes "statements") (many element))
          ∷ [],
    )
    ∷ (
      codes "BasicEventElement",
      valued (required (codes "observed") (one reference))
          ∷ required (codes "direction") (word directions)
          ∷ required (codes "state") (word states_of_event)
          ∷ optional (codes "messageTopic") text
          ∷ optional (codes "messageBroker") (one reference)
          ∷ optional (codes "lastUpdate") text
          ∷ optional (codes "minInterval") text
          ∷ optional (codes "maxInterval") text
          ∷ [],
    )
    ∷ (codes "Capability", [])
    ∷ (
      codes "Operation",
      valued (optional (codes "inputVariables") (many operation_variable))
          ∷ valued (optional (codes "outputVariables") (many operation_variable))
          ∷ valued (optional (codes "inoutputVariables") (many operation_variable))
          ∷ [],
    )
    ∷ (
      codes "SubmodelElementCollection",
      valued (optional (codes "value") (many element))
          ∷ [],
    )
    ∷ (
      codes "SubmodelElementList",
      optional (codes "orderRelevant") flag
          ∷ optional (codes "semanticIdListElement") (one reference)
          ∷ required (codes "typeValueListElement") (word element_names)
          ∷ optional (codes "valueTypeListElement") (word value_types)
          ∷ valued (optional (codes "value") (many element))
          ∷ [],
    )
    ∷ []

-- the subclasses of DataElement
abbrev pub data_elements : List (List ℕ)
data_elements = map kind.name_of (filter kind.is_data_element kind.all)

-- the members of any SubmodelElement, and those of the kind's own
abbrev pub submodel_element : List ℕ × List Row → List ℕ × List Row
submodel_element k = (k.0, referable ++ has_semantics ++ qualifiable ++ k.1)

-- the members of any SubmodelElement, and those of the kind's own, under each modelType
abbrev pub element_types : List (List ℕ × List Row)
element_types = map submodel_element kinds

-- Submodel, with HasKind
abbrev pub submodel_type : List ℕ × List Row
submodel_type = (
  codes "Submodel",
  referable ++ identifiable ++
      optional (codes "kind") (word modelling_kinds)
      ∷ has_semantics ++ qualifiable ++
      valued (optional (codes "submodelElements") (many element))
      ∷ [],
)

-- ---- metadata forms (IDTA-01002-3-0, content modifier Metadata): what is left of a modelType's members without those of class V

abbrev pub is_shown : Row → Bool
is_shown r = elim r.class [ m ↦ true | v ↦ false ]

abbrev pub shown : List Row → List Row
shown = filter is_shown

abbrev pub metadata_of : List ℕ × List Row → List ℕ × List Row
metadata_of k = (k.0, shown k.1)

-- ---- the modelTypes that an object of a sort may have, each with all its members; a part has none

abbrev pub model_types : Sort → List (List ℕ × List Row)
-- AssetAdministrationShell
model_types shell = (
  codes "AssetAdministrationShell",
  referable ++ identifiable ++
      required (codes "assetInformation") (one asset_information)
      ∷ optional (codes "derivedFrom") (one reference)
      ∷ optional (codes "submodels") (many reference)
      ∷ [],
)
    ∷ []
model_types submodel = submodel_type ∷ []
-- ConceptDescription
model_types concept = (
  codes "ConceptDescription",
  referable ++ identifiable ++
      optional (codes "isCaseOf") (many reference)
      ∷ [],
)
    ∷ []
-- SubmodelElement
model_types element = element_types
-- DataElement
model_types data_element = map submodel_element (filter (λ k. has data_elements k.0) kinds)
-- the metadata forms of a Submodel and of a SubmodelElement
model_types submodel_metadata = metadata_of submodel_type ∷ []
model_types element_metadata = map metadata_of element_types
model_types reference = []
model_types key = []
model_types lang_text = []
model_types extension = []
model_types qualifier = []
model_types specific_asset_id = []
model_types administration = []
model_types asset_information = []
model_types resource = []
model_types operation_variable = []
model_types environment = []
