-- What the spelling of a tree doesn't show: in which role an element stands, and that children stand only where their parent's kind has a place for them.
use Rattle.std.specs.Prelude.{◌≡◌, true}
use Rattle.aas_model.specs.declared.documents.Environment.{Environment}
use Rattle.aas_model.specs.declared.documents.Submodel.{Submodel}
use Rattle.aas_model.specs.declared.element.Element.{Element, out-Element}
use Rattle.aas_json_spelling.specs.Lists.{Each}
use Rattle.aas_json_mapping.specs.Whole.{is_member, is_placed}

-- of an element that stands by itself
pub record IsShaped (e : Element) : Type 0 where
  pub role : is_member (out-Element e).role ≡ true
  pub placed : is_placed e ≡ true

abbrev pub IsShapedSubmodel : Submodel → Type 0
IsShapedSubmodel s = Each IsShaped s.kids

abbrev pub IsShapedEnvironment : Environment → Type 0
IsShapedEnvironment e = Each IsShapedSubmodel e.submodels
