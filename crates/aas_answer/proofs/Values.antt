-- The value form of an element that shows no children: it is that of its row.
use Rattle.std.proofs.Common.{◌≡◌, false, List, [], map, refl, ap, ◌∙◌}
use Rattle.aas_form.specs.CoreForm.{childless, core_form}
use Rattle.aas_model.specs.declared.element.Element.{Element, out-Element}
use Rattle.aas_model.specs.declared.payload.Payload.{Payload}
use Rattle.aas_model.specs.declared.payload.Payload.TheVariants as p
use Rattle.aas_model_names.specs.declared.modifiers.Extent.{Extent}
use Rattle.aas_model_names.specs.declared.modifiers.Extent.TheVariants as extent
use Rattle.aas_model_names.specs.declared.modifiers.Level.{Level}
use Rattle.aas_model_names.specs.declared.modifiers.Level.TheVariants.{Core, Deep}
use Rattle.aas_value.specs.Kinds.{form_of}
use Rattle.aas_value.specs.Parts.{Part, value}
use Rattle.aas_value.specs.ValueForm.{part_of, value_form, shows_children}
use Rattle.aas_value.proofs.Forms.{form_out, part_rolled}

own_value : (x : Extent) (own : Payload) (kids : List Part)
    → shows_children own ≡ false → value (form_of x own kids) ≡ value (form_of x own [])
own_value x (p.AnnotatedRelationshipElement first second) kids hides = absurd (cc)
own_value x (p.Entity t g ids) kids hides = absurd (cc)
own_value x p.SubmodelElementCollection kids hides = absurd (cc)
own_value x (p.SubmodelElementList o s t v) kids hides = absurd (cc)
own_value extent.WithBlobValue (p.Blob t v) kids hides = refl
own_value extent.WithoutBlobValue (p.Blob t v) kids hides = refl
own_value x _ kids hides = refl

pub row_value : (x : Extent) (level : Level) (e : Element) → shows_children (out-Element e).payload ≡ false
    → value_form x (core_form level e) ≡ value (form_of x (out-Element e).payload [])
row_value x Deep e hides =
    form_out x e ∙ own_value x (out-Element e).payload (map (part_of x) (out-Element e).kids) hides
row_value x Core e hides =
    let y = out-Element e in
    ap (λ (z : Part). z.child.form) (part_rolled x (record y { kids = map childless y.kids }))
    ∙ own_value x y.payload (map (part_of x) (map childless y.kids)) hides
