-- The reference to a shell, to a submodel or to an element in it (IDTA-01002-3-0, content modifier Reference): a ModelReference (IDTA-01001-3-0) whose first key names the
-- document, and the others the elements on the path to the element. The attribute referredSemanticId isn't written: this profile's own rule.
use Rattle.std.specs.Prelude.{ℕ, Bool, true, false, List, [], ◌∷◌, Option, Some, None, option_and_then, option_map, unwrap_or, decimal}
use Rattle.aas_model.specs.Element.{kind_of}
use Rattle.aas_model.specs.declared.documents.Shell.{Shell}
use Rattle.aas_model.specs.declared.documents.Submodel.{Submodel}
use Rattle.aas_model.specs.declared.element.Element.{Element}
use Rattle.aas_model.specs.declared.path.PathStep.{PathStep}
use Rattle.aas_model.specs.declared.reference.Key.{Key}
use Rattle.aas_model.specs.declared.reference.Reference.{Reference, roll-Reference}
use Rattle.aas_model_names.specs.declared.kind.KeyType.{KeyType}
use Rattle.aas_model_names.specs.declared.kind.KeyType.TheVariants as key_type
use Rattle.aas_model_names.specs.declared.kind.Kind.{Kind}
use Rattle.aas_model_names.specs.declared.kind.Kind.TheVariants as kind
use Rattle.aas_model_names.specs.declared.enumerations.ReferenceType.TheVariants.{ModelReference}
use Rattle.aas_path_trees.specs.Children.{kids_of, id_short_of, is_list}
use Rattle.aas_path_trees.specs.ElementAt.{child_by}

abbrev pub key_type_of : Kind → KeyType
key_type_of kind.Property = key_type.Property
key_type_of kind.MultiLanguageProperty = key_type.MultiLanguageProperty
key_type_of kind.Range = key_type.Range
key_type_of kind.File = key_type.File
key_type_of kind.Blob = key_type.Blob
key_type_of kind.ReferenceElement = key_type.ReferenceElement
key_type_of kind.RelationshipElement = key_type.RelationshipElement
key_type_of kind.AnnotatedRelationshipElement = key_type.AnnotatedRelationshipElement
key_type_of kind.Entity = key_type.Entity
key_type_of kind.BasicEventElement = key_type.BasicEventElement
key_type_of kind.Capability = key_type.Capability
key_type_of kind.Operation = key_type.Operation
key_type_of kind.SubmodelElementCollection = key_type.SubmodelElementCollection
key_type_of kind.SubmodelElementList = key_type.SubmodelElementList

-- in a list the place, as a decimal number, and elsewhere the idShort
abbrev pub key_value : Bool → ℕ → Element → List ℕ
key_value true n e = decimal n
key_value false n e = unwrap_or (id_short_of e) []

-- the key of a child of a list or of something else, behind its place
abbrev pub element_key : Bool → ℕ × Element → Key
element_key l c = record { key_type = key_type_of (kind_of c.1); value = key_value l c.0 c.1 }

-- the keys of the elements on a path, which begins at ks, the children of a list or of something else; none where it leads nowhere
unfoldable pub keys_in : Bool → List PathStep → List Element → Option (List Key)
keys_in l [] ks = Some []
keys_in l (s ∷ p) ks = option_and_then (λ c. option_map (λ more. element_key l c ∷ more) (keys_in (is_list c.1) p (kids_of c.1))) (child_by l s ks)

abbrev pub model_reference : List Key → Reference
model_reference keys = roll-Reference (record { ref_type = ModelReference; keys = keys; referred = None })

abbrev pub submodel_key : Submodel → Key
submodel_key d = record { key_type = key_type.Submodel; value = d.head.id }

-- the reference to what a path leads to, the empty path leading to the submodel
abbrev pub reference_to : Submodel → List PathStep → Option Reference
reference_to d p = option_map (λ keys. model_reference (submodel_key d ∷ keys)) (keys_in false p d.kids)

-- the reference to the submodel, and that to a child of it
abbrev pub submodel_reference : Submodel → Reference
submodel_reference d = model_reference (submodel_key d ∷ [])

abbrev pub child_reference : Submodel → Element → Reference
child_reference d e = model_reference (submodel_key d ∷ element_key false (0, e) ∷ [])

-- the reference to a shell
abbrev pub shell_reference : Shell → Reference
shell_reference s = model_reference (record { key_type = key_type.AssetAdministrationShell; value = s.head.id } ∷ [])
