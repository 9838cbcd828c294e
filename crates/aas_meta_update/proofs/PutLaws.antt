-- The laws of putting metadata.
use Rattle.std.proofs.Common.{◌≡◌, [], map, refl, sym, ap, ◌∙◌}
use Rattle.aas_model.specs.declared.element.Element.{Element, Element-F, out-Element, roll-Element, out-roll-Element}
use Rattle.aas_model_names.specs.declared.modifiers.Extent.{Extent}
use Rattle.aas_json_mapping.specs.Metadata.{without_values, metadata_form}
use Rattle.aas_path_trees.specs.Children.{role_of, with_role}
use Rattle.aas_value.specs.Parts.{Part, value}
use Rattle.aas_value.specs.ValueForm.{part_of, value_form}
use Rattle.aas_value.proofs.Forms.{form_out, part_rolled}
use Rattle.aas_meta_update.specs.WithMetadata.{IsAlike, with_metadata, with_shown}
use Rattle.aas_meta_update.specs.Laws.{MetadataIsPut, ValuesStay}
use Rattle.aas_meta_update.proofs.Alike.{shown_put, values_put}

-- a form, by what it has
abbrev form_in : Element-F Element → Element
form_in y = roll-Element (record y { payload = without_values y.payload; kids = [] })

form_put : (e m : Element) → IsAlike e m → metadata_form (with_metadata e m) ≡ with_role (metadata_form m) (role_of e)
form_put e m alike =
    let y = out-Element e in
    let z = out-Element m in
    let new = out-roll-Element (record y { common = z.common; payload = with_shown y.payload z.payload }) in
    let old = out-roll-Element (record z { payload = without_values z.payload; kids = [] }) in
    let shown = shown_put y.payload z.payload alike in
    ap form_in new ∙ (λ i. roll-Element (record { common = z.common; payload = shown i; role = y.role; kids = [] })) ∙ sym (ap (λ (f : Element-F Element). roll-Element (record f { role = y.role })) old)

pub metadata_is_put : MetadataIsPut
metadata_is_put = record { element = form_put; submodel = λ d m. refl }

value_put : (x : Extent) (e m : Element) → IsAlike e m → value_form x (with_metadata e m) ≡ value_form x e
value_put x e m alike =
    let y = out-Element e in
    let z = out-Element m in
    let new = part_rolled x (record y { common = z.common; payload = with_shown y.payload z.payload }) in
    ap (λ (p : Part). p.child.form) new
    ∙ ap value (values_put x y.payload z.payload (map (part_of x) y.kids) alike)
    ∙ sym (form_out x e)

pub values_stay : ValuesStay
values_stay = record { element = value_put; submodel = λ x d m. refl }
