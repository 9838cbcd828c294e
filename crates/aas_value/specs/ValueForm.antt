-- The value form of elements and submodels (IDTA-01001-3-0, the value-only serialisation in JSON).
use Rattle.std.specs.Prelude.{ℕ, Bool, true, false, List, map, Option}
use Rattle.serde_json.specs.Data.{Data}
use Rattle.aas_model_names.specs.declared.modifiers.Extent.{Extent}
use Rattle.aas_model.specs.declared.element.Element.{Element, fold-Element}
use Rattle.aas_model.specs.declared.element.Element.TheOpen.{Element-F}
use Rattle.aas_model.specs.declared.documents.Submodel.{Submodel}
use Rattle.aas_model.specs.declared.payload.Payload.{Payload}
use Rattle.aas_model.specs.declared.payload.Payload.TheVariants as p
use Rattle.aas_value.specs.Children.{named}
use Rattle.aas_value.specs.Kinds.{form_of}
use Rattle.aas_value.specs.Parts.{Part, Form, children, value, lay_form}

-- only these kinds show their children
abbrev pub shows_children : Payload → Bool
shows_children (p.AnnotatedRelationshipElement first second) = true
shows_children (p.Entity t g ids) = true
shows_children p.SubmodelElementCollection = true
shows_children (p.SubmodelElementList o s t v) = true
shows_children own = false

-- an element as a part of its parent's form; what is sent for it is judged at the element itself
abbrev pub child_part : Option (List ℕ) → Form → Part
child_part n f = record { child = record { name = n; form = value f }; fits = λ d. true; lay = lay_form f }

abbrev pub part_over : Extent → Element-F Part → Part
part_over x e = child_part e.common.id_short (form_of x e.payload e.kids)

unfoldable pub part_of : Extent → Element → Part
part_of x = fold-Element Part (part_over x)

-- the value form of an element: none exactly for Capability and Operation
abbrev pub value_form : Extent → Element → Option Data
value_form x e = (part_of x e).child.form

-- the value form of a submodel: the object of its children
abbrev pub submodel_value : Extent → Submodel → Data
submodel_value x d = named (children (map (part_of x) d.kids))
