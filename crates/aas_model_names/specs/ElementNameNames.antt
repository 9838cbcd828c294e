-- The names of `ElementName`. IDTA-01001-3-0, enumeration AasSubmodelElements.
use Rattle.std.specs.Prelude.{ℕ, List, [], ◌∷◌, codes, refl}
use Rattle.aas_model_names.specs.Names.{names_of, FindsEach}
use Rattle.aas_model_names.specs.declared.kind.ElementName.{ElementName}
use Rattle.aas_model_names.specs.declared.kind.ElementName.TheVariants.{Property, MultiLanguageProperty, Range, File, Blob, ReferenceElement, RelationshipElement, AnnotatedRelationshipElement, Entity, BasicEventElement, Capability, Operation, SubmodelElementCollection, SubmodelElementList, SubmodelElement, DataElement, EventElement}

abbrev pub name_of : ElementName → List ℕ
name_of Property = codes "Property"
name_of MultiLanguageProperty = codes "MultiLanguageProperty"
name_of Range = codes "Range"
name_of File = codes "File"
name_of Blob = codes "Blob"
name_of ReferenceElement = codes "ReferenceElement"
name_of RelationshipElement = codes "RelationshipElement"
name_of AnnotatedRelationshipElement = codes "AnnotatedRelationshipElement"
name_of Entity = codes "Entity"
name_of BasicEventElement = codes "BasicEventElement"
name_of Capability = codes "Capability"
name_of Operation = codes "Operation"
name_of SubmodelElementCollection = codes "SubmodelElementCollection"
name_of SubmodelElementList = codes "SubmodelElementList"
name_of SubmodelElement = codes "SubmodelElement"
name_of DataElement = codes "DataElement"
name_of EventElement = codes "EventElement"

abbrev pub all : List ElementName
all =
    Property ∷ MultiLanguageProperty ∷ Range ∷ File ∷ Blob ∷ ReferenceElement ∷ RelationshipElement ∷
    AnnotatedRelationshipElement ∷ Entity ∷ BasicEventElement ∷ Capability ∷ Operation ∷ SubmodelElementCollection ∷
    SubmodelElementList ∷ SubmodelElement ∷ DataElement ∷ EventElement ∷ []

abbrev pub names : List (List ℕ)
names = names_of name_of all

pub found : FindsEach name_of all
found Property = refl
found _ = refl
