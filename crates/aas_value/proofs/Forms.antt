-- The value form of an element, by its children's.
use Rattle.std.proofs.Common.{◌≡◌, List, map, refl, ap}
use Rattle.aas_model_names.specs.declared.modifiers.Extent.{Extent}
use Rattle.aas_model_names.specs.declared.modifiers.Extent.TheVariants as extent
use Rattle.aas_model.specs.declared.element.Element.{Element, Element-F, out-Element, roll-Element}
use Rattle.aas_model.specs.declared.element.Element.TheFolds.{fold_out-Element, fold-roll-Element}
use Rattle.aas_model.specs.declared.payload.Payload.{Payload}
use Rattle.aas_model.specs.declared.payload.Payload.TheVariants as p
use Rattle.aas_value.specs.Kinds.{form_of}
use Rattle.aas_value.specs.Parts.{Part, children, value}
use Rattle.aas_value.specs.ValueForm.{child_part, part_over, part_of, value_form}

pub part_out : (x : Extent) (e : Element) → part_of x e
    ≡ child_part (out-Element e).common.id_short
    (form_of x (out-Element e).payload (map (part_of x) (out-Element e).kids))
unfolding part_of
part_out x e = fold_out-Element Part (part_over x) e

pub part_rolled : (x : Extent) (y : Element-F Element) → part_of x (roll-Element y)
    ≡ child_part y.common.id_short (form_of x y.payload (map (part_of x) y.kids))
unfolding part_of
part_rolled x y = fold-roll-Element Part (part_over x) y

pub form_out : (x : Extent) (e : Element)
    → value_form x e ≡ value (form_of x (out-Element e).payload (map (part_of x) (out-Element e).kids))
form_out x e = ap (λ (y : Part). y.child.form) (part_out x e)

pub name_out : (x : Extent) (e : Element) → (part_of x e).child.name ≡ (out-Element e).common.id_short
name_out x e = ap (λ (y : Part). y.child.name) (part_out x e)

-- a value form is made of names and values of children alone
pub same_value : (x : Extent) (own : Payload) (xs ys : List Part) → children xs ≡ children ys
    → value (form_of x own xs) ≡ value (form_of x own ys)
same_value x (p.AnnotatedRelationshipElement first second) xs ys same = rw same refl
same_value x (p.Entity t g ids) xs ys same = rw same refl
same_value x p.SubmodelElementCollection xs ys same = rw same refl
same_value x (p.SubmodelElementList o s t v) xs ys same = rw same refl
same_value extent.WithBlobValue (p.Blob t v) xs ys same = refl
same_value extent.WithoutBlobValue (p.Blob t v) xs ys same = refl
same_value x _ xs ys same = refl
