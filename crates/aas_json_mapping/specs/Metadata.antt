-- Metadata forms (IDTA-01002-3-0, content modifier Metadata): all of an element or a submodel but its values and its children. Values are the members of class V of
-- the attribute table; the variables of an Operation are children. Which they are is this profile's own rule.
use Rattle.std.specs.Prelude.{◌≡◌, [], Bool, true, None}
use Rattle.aas_json_table.specs.Table.{submodel_metadata as submodel_form, element_metadata}
use Rattle.aas_json_table.specs.TooDeep.{Levels}
use Rattle.aas_json_spelling.specs.Spells.{Trees}
use Rattle.aas_model.specs.declared.documents.Submodel.{Submodel}
use Rattle.aas_model.specs.declared.element.Element.{Element, out-Element, roll-Element}
use Rattle.aas_model.specs.declared.payload.Payload.{Payload}
use Rattle.aas_model.specs.declared.payload.Payload.TheVariants as p
use Rattle.aas_reference.specs.Whole.{whole_if_there}
use Rattle.aas_json_mapping.specs.Documents.{spell_submodel}
use Rattle.aas_json_mapping.specs.Elements.{spell_element}
use Rattle.aas_json_mapping.specs.Whole.{is_member, is_whole_submodel, whole_common}

-- what is left of a kind's own members without those of class V
abbrev pub without_values : Payload → Payload
without_values (p.Property t v i) = p.Property t None i
without_values (p.MultiLanguageProperty v i) = p.MultiLanguageProperty [] i
without_values (p.Range t min max) = p.Range t None None
without_values (p.File t v) = p.File None None
without_values (p.Blob t v) = p.Blob None None
without_values (p.ReferenceElement v) = p.ReferenceElement None
without_values (p.RelationshipElement first second) = p.RelationshipElement None None
without_values (p.AnnotatedRelationshipElement first second) = p.AnnotatedRelationshipElement None None
without_values (p.Entity t g ids) = p.Entity None None []
without_values (p.BasicEventElement observed d s topic broker last min max) = p.BasicEventElement None d s topic broker last min max
without_values p.Capability = p.Capability
without_values p.Operation = p.Operation
without_values p.SubmodelElementCollection = p.SubmodelElementCollection
without_values (p.SubmodelElementList o s t v) = p.SubmodelElementList o s t v

abbrev pub metadata_form : Element → Element
metadata_form e = roll-Element (record (out-Element e) { payload = without_values (out-Element e).payload; kids = [] })

abbrev pub submodel_metadata : Submodel → Submodel
submodel_metadata d = record d { kids = [] }

-- ---- forms that stand by themselves

-- an element that is its own metadata form
pub record IsMetadata (e : Element) : Type 0 where
  pub role : is_member (out-Element e).role ≡ true
  pub form : metadata_form e ≡ e

abbrev pub IsSubmodelMetadata : Submodel → Type 0
IsSubmodelMetadata d = d.kids ≡ []

-- references of class M are whole
abbrev pub whole_shown : Levels → Payload → Bool
whole_shown left (p.Property t v i) = whole_if_there left i
whole_shown left (p.MultiLanguageProperty v i) = whole_if_there left i
whole_shown left (p.BasicEventElement observed d s topic broker last min max) = whole_if_there left broker
whole_shown left (p.SubmodelElementList o s t v) = whole_if_there left s
whole_shown left x = true

pub record IsWholeMetadata (left : Levels) (e : Element) : Type 0 where
  pub shape : IsMetadata e
  pub common : whole_common left (out-Element e).common ≡ true
  pub own : whole_shown left (out-Element e).payload ≡ true

pub record IsWholeSubmodelMetadata (left : Levels) (d : Submodel) : Type 0 where
  pub shape : IsSubmodelMetadata d
  pub whole : is_whole_submodel left d ≡ true

-- They are spelled as what they are; the table of their sorts has no members of class V, and demands none.
abbrev pub metadata_forms : Trees Element
metadata_forms = record { sort = element_metadata; spell = spell_element; IsWhole = IsWholeMetadata }

abbrev pub submodel_metadata_forms : Trees Submodel
submodel_metadata_forms = record { sort = submodel_form; spell = spell_submodel; IsWhole = IsWholeSubmodelMetadata }
