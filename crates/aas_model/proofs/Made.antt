-- Values that hold themselves, made of the parts of another.
use Rattle.std.proofs.Common.{◌≡◌, List, Option, ◌∙◌}
use Rattle.aas_model_names.specs.declared.enumerations.ReferenceType.{ReferenceType}
use Rattle.aas_model.specs.declared.reference.Key.{Key}
use Rattle.aas_model.specs.declared.reference.Reference.{Reference, out-Reference, roll-Reference, roll-out-Reference}
use Rattle.aas_model.specs.declared.common.Common.{Common}
use Rattle.aas_model.specs.declared.payload.Payload.{Payload}
use Rattle.aas_model.specs.declared.element.Role.{Role}
use Rattle.aas_model.specs.declared.element.Element.{Element, out-Element, roll-Element, roll-out-Element}

-- an element with the parts of e is e
pub same_element : (e : Element) (c : Common) (p : Payload) (r : Role) (kids : List Element) → c ≡ (out-Element e).common → p ≡ (out-Element e).payload → r ≡ (out-Element e).role
    → kids ≡ (out-Element e).kids → roll-Element (record { common = c; payload = p; role = r; kids = kids }) ≡ e
same_element e c p r kids common payload role below = (λ i. roll-Element (record { common = common i; payload = payload i; role = role i; kids = below i })) ∙ roll-out-Element e

-- a reference with the parts of r is r
pub same_reference : (r : Reference) (t : ReferenceType) (keys : List Key) (s : Option Reference) → t ≡ (out-Reference r).ref_type → keys ≡ (out-Reference r).keys → s ≡ (out-Reference r).referred
    → roll-Reference (record { ref_type = t; keys = keys; referred = s }) ≡ r
same_reference r t keys s ref_type same referred = (λ i. roll-Reference (record { ref_type = ref_type i; keys = same i; referred = referred i })) ∙ roll-out-Reference r
