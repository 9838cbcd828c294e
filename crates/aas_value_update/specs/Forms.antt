-- The forms that updates of values are about (IDTA-01002-3-0, serialization ValueOnly): those with Blob values.
use Rattle.std.specs.Prelude.{List}
use Rattle.serde_json.specs.Data.{Data}
use Rattle.aas_model_names.specs.declared.modifiers.Extent.TheVariants as extent
use Rattle.aas_model.specs.declared.element.Element.{Element}
use Rattle.aas_model.specs.declared.payload.Payload.{Payload}
use Rattle.aas_value.specs.Kinds as kinds
use Rattle.aas_value.specs.Parts.{Part, Form}
use Rattle.aas_value.specs.ValueForm as value_form

abbrev pub form_of : Payload → List Part → Form
form_of = kinds.form_of extent.WithBlobValue

abbrev pub part_of : Element → Part
part_of = value_form.part_of extent.WithBlobValue

-- v laid over w, for w and v that fit e
abbrev pub lay : Element → Data → Data → Data
lay e w v = (part_of e).lay w v
