-- The names of `Kind`. IDTA-01001-3-0: the classes under SubmodelElement that are not abstract, and which of them are under DataElement.
use Rattle.std.specs.Prelude.{ℕ, Bool, true, false, List, [], ◌∷◌, codes, refl}
use Rattle.aas_model_names.specs.Names.{names_of, FindsEach}
use Rattle.aas_model_names.specs.declared.kind.Kind.{Kind}
use Rattle.aas_model_names.specs.declared.kind.Kind.TheVariants.{Property, MultiLanguageProperty, Range, File, Blob, ReferenceElement, RelationshipElement, AnnotatedRelationshipElement, Entity, BasicEventElement, Capability, Operation, SubmodelElementCollection, SubmodelElementList}

abbrev pub name_of : Kind → List ℕ
name_of Property = codes "Property"
name_of MultiLanguageProperty = codes "MultiLanguageProperty"
name_of Range = codes "Range"
name_of File = codes "File"
name_of Blob = codes "Blob"
name_of ReferenceElement = codes "ReferenceElement"
name_of RelationshipElement = codes "RelationshipElement"
name_of AnnotatedRelationshipElement = codes "AnnotatedRelationshipElement"
name_of Entity = codes "Entity"
name_of BasicEventElement = codes "BasicEventElement"
name_of Capability = codes "Capability"
name_of Operation = codes "Operation"
name_of SubmodelElementCollection = codes "SubmodelElementCollection"
name_of SubmodelElementList = codes "SubmodelElementList"

abbrev pub all : List Kind
all =
    Property ∷ MultiLanguageProperty ∷ Range ∷ File ∷ Blob ∷ ReferenceElement ∷ RelationshipElement ∷
    AnnotatedRelationshipElement ∷ Entity ∷ BasicEventElement ∷ Capability ∷ Operation ∷ SubmodelElementCollection ∷
    SubmodelElementList ∷ []

abbrev pub names : List (List ℕ)
names = names_of name_of all

pub found : FindsEach name_of all
found Property = refl
found _ = refl

-- the kinds under DataElement
abbrev pub is_data_element : Kind → Bool
is_data_element Property = true
is_data_element MultiLanguageProperty = true
is_data_element Range = true
is_data_element File = true
is_data_element Blob = true
is_data_element ReferenceElement = true
is_data_element k = false
