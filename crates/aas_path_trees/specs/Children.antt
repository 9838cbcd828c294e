-- An element and its children.
use Rattle.std.specs.Prelude.{ℕ, Bool, true, false, List, Option}
use Rattle.aas_model.specs.declared.element.Element.{Element, out-Element, roll-Element}
use Rattle.aas_model.specs.declared.element.Role.{Role}
use Rattle.aas_model.specs.declared.payload.Payload.{Payload}
use Rattle.aas_model.specs.declared.payload.Payload.TheVariants as payload

abbrev pub kids_of : Element → List Element
kids_of e = (out-Element e).kids

abbrev pub id_short_of : Element → Option (List ℕ)
id_short_of e = (out-Element e).common.id_short

abbrev pub role_of : Element → Role
role_of e = (out-Element e).role

-- SubmodelElementList (IDTA-01001-3-0)
abbrev pub is_list_payload : Payload → Bool
is_list_payload (payload.SubmodelElementList _ _ _ _) = true
is_list_payload p = false

abbrev pub is_list : Element → Bool
is_list e = is_list_payload (out-Element e).payload

-- e with ks for its children
abbrev pub with_kids : Element → List Element → Element
with_kids e ks = roll-Element (record (out-Element e) { kids = ks })

-- e with r for its role
abbrev pub with_role : Element → Role → Element
with_role e r = roll-Element (record (out-Element e) { role = r })
