-- An element and a submodel with the metadata of a form (IDTA-01002-3-0, content modifier Metadata): what is no value is the form's; values, role and children stay.
-- This profile's own rule.
use Rattle.std.specs.Prelude.{◌≡◌, Option, Some, None}
use Rattle.aas_model_names.specs.declared.value_type.ValueType.{ValueType}
use Rattle.aas_model.specs.Payload.{kind_of}
use Rattle.aas_model.specs.declared.documents.Submodel.{Submodel}
use Rattle.aas_model.specs.declared.element.Element.{Element, out-Element, roll-Element}
use Rattle.aas_model.specs.declared.payload.Payload.{Payload}
use Rattle.aas_model.specs.declared.payload.Payload.TheVariants as p
use Rattle.aas_model.specs.declared.reference.Reference.{Reference}

-- ---- which forms fit

-- of a Property or a Range
abbrev pub value_type_of : Payload → Option ValueType
value_type_of (p.Property t v i) = Some t
value_type_of (p.Range t min max) = Some t
value_type_of x = None

-- of one kind and, for Property and Range, of one value type
pub record AreAlike (x y : Payload) : Type 0 where
  pub kind : kind_of x ≡ kind_of y
  pub value_type : value_type_of x ≡ value_type_of y

abbrev pub IsAlike : Element → Element → Type 0
IsAlike e m = AreAlike (out-Element e).payload (out-Element m).payload

-- ---- attributes

-- the valueId of a Property or a MultiLanguageProperty
abbrev pub value_id_of : Payload → Option Reference
value_id_of (p.Property t v i) = i
value_id_of (p.MultiLanguageProperty v i) = i
value_id_of y = None

-- with what a BasicEventElement observes
abbrev pub with_observed : Option Reference → Payload → Payload
with_observed o (p.BasicEventElement observed d s topic broker last min max) = p.BasicEventElement o d s topic broker last min max
with_observed o y = y

-- The values of x, and what is shown of y, which is alike. The kinds that aren't listed have values alone.
abbrev pub with_shown : Payload → Payload → Payload
with_shown (p.Property t v i) y = p.Property t v (value_id_of y)
with_shown (p.MultiLanguageProperty v i) y = p.MultiLanguageProperty v (value_id_of y)
with_shown (p.BasicEventElement observed d s topic broker last min max) y = with_observed observed y
with_shown (p.SubmodelElementList o s t v) y = y
with_shown x y = x

-- ---- elements and submodels

abbrev pub with_metadata : Element → Element → Element
with_metadata e m = roll-Element (record (out-Element e) { common = (out-Element m).common; payload = with_shown (out-Element e).payload (out-Element m).payload })

abbrev pub with_submodel_metadata : Submodel → Submodel → Submodel
with_submodel_metadata d m = record m { kids = d.kids }
