-- Elements as parts of their parent's value form, one level at a time.
use Rattle.std.proofs.Common.{◌≡◌, ℕ, zero, suc, List, [], ◌∷◌, map, Some, slice_get, slice_set, refl, sym, ap, ◌∙◌}
use Rattle.aas_model.specs.declared.element.Element.{Element, out-Element}
use Rattle.aas_model_names.specs.declared.modifiers.Extent.{Extent}
use Rattle.aas_path_trees.specs.Children.{kids_of, with_kids}
use Rattle.aas_value.specs.Kinds.{form_of}
use Rattle.aas_value.specs.Parts.{Part}
use Rattle.aas_value.specs.ValueForm.{child_part, part_of}
use Rattle.aas_value.proofs.Forms.{part_out, part_rolled}

-- an element is the same part, where its children are
pub kids_part : (x : Extent) (e : Element) (ks : List Element)
    → map (part_of x) ks ≡ map (part_of x) (kids_of e) → part_of x (with_kids e ks) ≡ part_of x e
kids_part x e ks same =
    let y = out-Element e in
    part_rolled x (record y { kids = ks })
    ∙ ap (λ (xs : List Part). child_part y.common.id_short (form_of x y.payload xs)) same
    ∙ sym (part_out x e)

pub set_same : {X Y : Type 0} (f : X → Y) (xs : List X) (i : ℕ) (x w : X) → slice_get xs i ≡ Some x → f w ≡ f x → map f (slice_set xs i w) ≡ map f xs
set_same f [] i x w at e = refl
set_same f (y ∷ ys) zero x w at e = let same : y ≡ x = cc in ap (λ z. z ∷ map f ys) (e ∙ ap f (sym same))
set_same f (y ∷ ys) (suc i) x w at e = ap (λ zs. f y ∷ zs) (set_same f ys i x w at e)
