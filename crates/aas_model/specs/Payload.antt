-- The kind of an element, which its own attributes decide: each kind has attributes of its own.
-- IDTA-01001-3-0, the classes under SubmodelElement that are not abstract.
use Rattle.std.specs.Prelude.{Bool, true, false}
use Rattle.aas_model.specs.declared.payload.Payload.{Payload}
use Rattle.aas_model.specs.declared.payload.Payload.TheVariants as payload
use Rattle.aas_model_names.specs.declared.kind.Kind.{Kind}
use Rattle.aas_model_names.specs.declared.kind.Kind.TheVariants as kind

abbrev pub kind_of : Payload → Kind
kind_of (payload.Property _ _ _) = kind.Property
kind_of (payload.MultiLanguageProperty _ _) = kind.MultiLanguageProperty
kind_of (payload.Range _ _ _) = kind.Range
kind_of (payload.File _ _) = kind.File
kind_of (payload.Blob _ _) = kind.Blob
kind_of (payload.ReferenceElement _) = kind.ReferenceElement
kind_of (payload.RelationshipElement _ _) = kind.RelationshipElement
kind_of (payload.AnnotatedRelationshipElement _ _) = kind.AnnotatedRelationshipElement
kind_of (payload.Entity _ _ _) = kind.Entity
kind_of (payload.BasicEventElement _ _ _ _ _ _ _ _) = kind.BasicEventElement
kind_of payload.Capability = kind.Capability
kind_of payload.Operation = kind.Operation
kind_of payload.SubmodelElementCollection = kind.SubmodelElementCollection
kind_of (payload.SubmodelElementList _ _ _ _) = kind.SubmodelElementList

abbrev pub is_operation : Payload → Bool
is_operation payload.Operation = true
is_operation _ = false
