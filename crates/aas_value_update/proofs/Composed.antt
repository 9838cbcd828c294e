-- Two updates one after the other are one, by the second value laid over the first.
use Rattle.std.proofs.Common.{◌≡◌, ◌↔◌, Bool, true, List, [], ◌∷◌, Option, Some, None, option_map, refl, sym, ap}
use Rattle.std.proofs.Common.{◌∙◌, subst}
use Rattle.std.proofs.lemmas.Option.{same_Some}
use Rattle.serde_json.specs.Data.{Data}
use Rattle.aas_json_spelling.specs.Values.{IsOrdered}
use Rattle.aas_model_names.specs.declared.modifiers.Extent.TheVariants as extent
use Rattle.aas_model.specs.declared.common.Common.{Common}
use Rattle.aas_model.specs.declared.documents.Submodel.{Submodel}
use Rattle.aas_model.specs.declared.element.Element.{Element}
use Rattle.aas_model.specs.declared.path.PathStep.{PathStep}
use Rattle.aas_constraint_rules.specs.Faults.{submodel}
use Rattle.aas_path_trees.specs.ElementAt.{element_at}
use Rattle.aas_path_trees.specs.WithElement.{with_element}
use Rattle.aas_constraint_laws.specs.Valid.{IsValid}
use Rattle.aas_value.specs.Children.{Child}
use Rattle.aas_value.specs.ValueForm.{value_form}
use Rattle.aas_value_update.specs.Forms.{part_of, lay}
use Rattle.aas_value_update.specs.Laws.{NamesDiffer, IsInOrder, UpdatesCompose, ValueUpdatesCompose, LaidValuesFit}
use Rattle.aas_value.specs.Parts.{over}
use Rattle.aas_value_update.specs.Shape.{HasShape}
use Rattle.aas_value_update.specs.Update.{IsElementUpdate, IsUpdateAt, IsSubmodelUpdate, body}
use Rattle.aas_value_update.proofs.Again.{element_again}
use Rattle.aas_value_update.proofs.Alone.{level}
use Rattle.aas_value_update.proofs.Entire.{entire, entire_child, lay_entire, fits_entire, joins_entire}
use Rattle.aas_value_update.proofs.Entire.{fits_shape, shape_fits}
use Rattle.aas_value_update.proofs.OneUpdate.{names_alike}
use Rattle.aas_value_update.proofs.Order.{body_order, order_at}
use Rattle.aas_value_update.proofs.Rest.{left_alone_is}

-- ---- one element

pub laid_values_fit : LaidValuesFit
laid_values_fit e v w order first second a b =
    shape_fits e (lay e v w) order.names
    (subst (λ (f : Data → Data → Data). (entire e).fits (f v w) ≡ true) (sym (lay_entire e e order.names refl))
    ((joins_entire e order.names).fits v w (fits_shape e v order.names first a) (fits_shape e w order.names second b)))

laid_twice : (e : Element) (v w f : Data) → IsInOrder e → IsOrdered v → IsOrdered w → HasShape e v → HasShape e w
    → value_form extent.WithBlobValue e ≡ Some f
    → lay e (lay e f v) w ≡ lay e f (lay e v w)
laid_twice e v w f order first second a b is =
    subst (λ (g : Data → Data → Data). g (g f v) w ≡ g f (g v w))
    (sym (lay_entire e e order.names refl)) (by_form (entire e).lay
    (entire_child e)
    ((joins_entire e order.names).twice v w (fits_shape e v order.names first a) (fits_shape e w order.names second b)))
  where
    by_form : (g : Data → Data → Data) → (entire e).child ≡ (part_of e).child
        → over g (over g (entire e).child.form (Some v)) (Some w) ≡ over g (entire e).child.form (Some (g v w))
        → g (g f v) w ≡ g f (g v w)
    by_form g child twice =
        let form : (entire e).child.form ≡ Some f = ap (λ (c : Child). c.form) child ∙ is in
        let same : Some (g (g f v) w) ≡ Some (g f (g v w)) =
        sym (ap (λ o. over g (over g o (Some v)) (Some w)) form) ∙ twice ∙ ap (λ o. over g o (Some (g v w))) form in
        cc

-- an updated element fits the same, and is laid in the same way
record IsLike (e u : Element) : Type 0 where
  names : NamesDiffer u
  lays : (part_of u).lay ≡ (part_of e).lay
  there : (w : Data) → IsOrdered w → HasShape u w → HasShape e w
  back : (w : Data) → IsOrdered w → HasShape e w → HasShape u w

is_like : (e u : Element) (v : Data) → IsInOrder e → IsElementUpdate e v u → IsLike e u
is_like e u v order a =
    let names = names_alike u e (left_alone_is e u order.placed a.metadata a.operations) order.names in
    let fits = fits_entire e u order.names a.metadata in
    record {
      names = names;
      lays = lay_entire u u names refl ∙ sym (lay_entire e u order.names a.metadata);
      there = λ w ordered shape.
          shape_fits e w order.names (ap (λ (t : Data → Bool). t w) fits ∙ fits_shape u w names ordered shape);
      back = λ w ordered shape.
          shape_fits u w names (sym (ap (λ (t : Data → Bool). t w) fits) ∙ fits_shape e w order.names ordered shape);
    }

-- the form after the second value is that after both
form_after : (e u : Element) (v w : Data)
    → IsInOrder e → IsOrdered v → IsOrdered w → IsElementUpdate e v u → HasShape e w
    → option_map (λ f. lay u f w) (value_form extent.WithBlobValue u)
    ≡ option_map (λ f. lay e f (lay e v w)) (value_form extent.WithBlobValue e)
form_after e u v w order first second a shape =
    ap (option_map (λ f. lay u f w)) a.form ∙ by_form (value_form extent.WithBlobValue e) refl
  where
    by_form : (o : Option Data) → value_form extent.WithBlobValue e ≡ o
        → option_map (λ f. lay u f w) (option_map (λ f. lay e f v) o) ≡ option_map (λ f. lay e f (lay e v w)) o
    by_form None is = refl
    by_form (Some f) is =
        ap (λ (g : Data → Data → Data). Some (g (lay e f v) w)) (is_like e u v order a).lays
        ∙ ap (λ d. Some d) (laid_twice e v w f order first second a.shape shape is)

pub updates_compose : UpdatesCompose
updates_compose e u x v w order first second a =
    let like = is_like e u v order a in (
      λ b.
          let shape = like.there w second b.shape in (
            shape,
            record {
              metadata = a.metadata ∙ b.metadata;
              operations = b.operations ∙ a.operations;
              shape = laid_values_fit e v w order first second a.shape shape;
              form = b.form ∙ form_after e u v w order first second a shape;
            },
          ),
      λ b. record {
        metadata = sym a.metadata ∙ b.1.metadata;
        operations = b.1.operations ∙ sym a.operations;
        shape = like.back w second b.0;
        form = b.1.form ∙ sym (form_after e u v w order first second a b.0);
      },
    )

-- ---- in a submodel

-- the path leads to the updated element, and a further one takes its place
pub record IsAgain (d u : Submodel) (p : List PathStep) (w : Element) : Type 0 where
  pub found : element_at u p ≡ Some w
  pub outside : (z : Element) → with_element u p z ≡ with_element d p z

pub again : (d u : Submodel) (p : List PathStep) (v : Data)
    → IsValid (submodel d) → (a : IsUpdateAt d p v u) → IsAgain d u p a.new
again d u p v valid a =
    let rest =
    left_alone_is a.old a.new (order_at d p a.old valid a.found).placed a.update.metadata a.update.operations in
    let name = ap (λ (c : Common). c.id_short) (level a.new a.old rest).same.commons in
    let both = element_again a.old a.new name d p a.found in
    record {
      found = ap (λ z. element_at z p) a.outside ∙ both.0;
      outside = λ z. ap (λ y. with_element y p z) a.outside ∙ both.1 z;
    }

at_path : (d u x : Submodel) (p : List PathStep) (e : Element) (v w : Data)
    → IsValid (submodel d) → IsOrdered v → IsOrdered w
    → element_at d p ≡ Some e → IsUpdateAt d p v u → IsUpdateAt u p w x ↔ (HasShape e w × IsUpdateAt d p (lay e v w) x)
at_path d u x p e v w valid first second there a =
    let after = again d u p v valid a in
    let old = subst (λ z. IsElementUpdate z v a.new) (same_Some a.old e (sym a.found ∙ there)) a.update in
    let both = λ (z : Element). updates_compose e a.new z v w (order_at d p e valid there) first second old in (
      λ b.
          let news = same_Some b.old a.new (sym b.found ∙ after.found) in
          let one = (both b.new).0 (subst (λ z. IsElementUpdate z w b.new) news b.update) in (
            one.0,
            record { old = e; new = b.new; found = there; update = one.1; outside = b.outside ∙ after.outside b.new },
          ),
      λ b.
          let same = same_Some b.1.old e (sym b.1.found ∙ there) in
          record {
            old = a.new;
            new = b.1.new;
            found = after.found;
            update = (both b.1.new).1 (b.0, subst (λ z. IsElementUpdate z (lay e v w) b.1.new) same b.1.update);
            outside = b.1.outside ∙ sym (after.outside b.1.new);
          },
    )

of_body : (d u x : Submodel) (e : Element) (v w : Data) → IsValid (submodel d) → IsOrdered v → IsOrdered w → body d ≡ e
    → IsSubmodelUpdate d v u → IsSubmodelUpdate u w x ↔ (HasShape e w × IsSubmodelUpdate d (lay e v w) x)
of_body d u x e v w valid first second is a =
    subst (λ z. IsSubmodelUpdate u w x ↔ (HasShape z w × IsSubmodelUpdate d (lay z v w) x)) is
    (let both = updates_compose (body d) (body u) (body x) v w (body_order d valid) first second a.update in
    let kids = ap (λ (y : Submodel). record y { kids = x.kids }) a.outside in (
      λ b. let one = both.0 b.update in (one.0, record { update = one.1; outside = b.outside ∙ kids }),
      λ b. record { update = both.1 (b.0, b.1.update); outside = b.1.outside ∙ sym kids },
    ))

pub value_updates_compose : ValueUpdatesCompose
value_updates_compose d u x [] e v w valid first second there a =
    of_body d u x e v w valid first second (same_Some (body d) e there) a
value_updates_compose d u x (s ∷ p) e v w valid first second there a =
    at_path d u x (s ∷ p) e v w valid first second there a
