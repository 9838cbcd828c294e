-- What is said of an element as a whole.
use Rattle.aas_model.specs.Payload as payload
use Rattle.aas_model.specs.declared.element.Element.{Element, out-Element}
use Rattle.aas_model_names.specs.declared.kind.Kind.{Kind}

abbrev pub kind_of : Element → Kind
kind_of element = payload.kind_of (out-Element element).payload
