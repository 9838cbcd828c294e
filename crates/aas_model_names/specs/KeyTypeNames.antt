-- The names of `KeyType`. IDTA-01001-3-0, enumeration KeyTypes.
use Rattle.std.specs.Prelude.{ℕ, List, [], ◌∷◌, codes, refl}
use Rattle.aas_model_names.specs.Names.{names_of, FindsEach}
use Rattle.aas_model_names.specs.declared.kind.KeyType.{KeyType}
use Rattle.aas_model_names.specs.declared.kind.KeyType.TheVariants.{Property, MultiLanguageProperty, Range, File, Blob, ReferenceElement, RelationshipElement, AnnotatedRelationshipElement, Entity, BasicEventElement, Capability, Operation, SubmodelElementCollection, SubmodelElementList, SubmodelElement, DataElement, EventElement, AssetAdministrationShell, Submodel, ConceptDescription, Identifiable, Referable, GlobalReference, FragmentReference}

abbrev pub name_of : KeyType → List ℕ
name_of Property = codes "Property"
name_of MultiLanguageProperty = codes "MultiLanguageProperty"
name_of Range = codes "Range"
name_of File = codes "File"
name_of Blob = codes "Blob"
name_of ReferenceElement = codes "ReferenceElement"
name_of RelationshipElement = codes "RelationshipElement"
name_of AnnotatedRelationshipElement = codes "AnnotatedRelationshipElement"
name_of Entity = codes "Entity"
name_of BasicEventElement = codes "BasicEventElement"
name_of Capability = codes "Capability"
name_of Operation = codes "Operation"
name_of SubmodelElementCollection = codes "SubmodelElementCollection"
name_of SubmodelElementList = codes "SubmodelElementList"
name_of SubmodelElement = codes "SubmodelElement"
name_of DataElement = codes "DataElement"
name_of EventElement = codes "EventElement"
name_of AssetAdministrationShell = codes "AssetAdministrationShell"
name_of Submodel = codes "Submodel"
name_of ConceptDescription = codes "ConceptDescription"
name_of Identifiable = codes "Identifiable"
name_of Referable = codes "Referable"
name_of GlobalReference = codes "GlobalReference"
name_of FragmentReference = codes "FragmentReference"

abbrev pub all : List KeyType
all =
    Property ∷ MultiLanguageProperty ∷ Range ∷ File ∷ Blob ∷ ReferenceElement ∷ RelationshipElement ∷
    AnnotatedRelationshipElement ∷ Entity ∷ BasicEventElement ∷ Capability ∷ Operation ∷ SubmodelElementCollection ∷
    SubmodelElementList ∷ SubmodelElement ∷ DataElement ∷ EventElement ∷ AssetAdministrationShell ∷ Submodel ∷
    ConceptDescription ∷ Identifiable ∷ Referable ∷ GlobalReference ∷ FragmentReference ∷ []

abbrev pub names : List (List ℕ)
names = names_of name_of all

pub found : FindsEach name_of all
found Property = refl
found _ = refl
