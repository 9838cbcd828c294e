-- Elements as parts that only what fits them and all below them may be sent for.
use Rattle.std.proofs.Common.{◌≡◌, ℕ, zero, suc, true, List, [], ◌∷◌, map, Option, Some, None, is_some, slice_get, refl}
use Rattle.std.proofs.Common.{sym, ap, ap₂, ◌∙◌, subst}
use Rattle.serde_json.specs.Data.{Data}
use Rattle.aas_json_mapping.proofs.Elements.{made, by_children}
use Rattle.aas_json_spelling.specs.Lists.{Each}
use Rattle.aas_json_spelling.specs.Values.{IsOrdered}
use Rattle.aas_model_names.specs.declared.modifiers.Extent.TheVariants as extent
use Rattle.aas_model.specs.declared.element.Element.{Element, out-Element, fold-Element, fold_out-Element}
use Rattle.aas_model.specs.declared.element.Element.TheOpen.{Element-F}
use Rattle.aas_path_trees.specs.Children.{kids_of, id_short_of}
use Rattle.aas_path_trees.specs.Places.{element_in}
use Rattle.aas_constraint_laws.specs.Values.{DifferInValues}
use Rattle.aas_value.specs.Children.{Child}
use Rattle.aas_value.specs.ValueForm.{child_part}
use Rattle.aas_value.specs.Kinds.{part}
use Rattle.aas_value.proofs.Forms.{same_value}
use Rattle.aas_value_update.specs.Forms.{form_of, part_of}
use Rattle.aas_value_update.specs.Laws.{NamesDiffer}
use Rattle.aas_value.specs.Parts.{Part, children, fits_if, fits_form}
use Rattle.aas_value_update.specs.Shape.{HasShape, sent}
use Rattle.aas_value_update.proofs.Alone.{kids_made}
use Rattle.aas_value_update.proofs.Elements.{part_out}
use Rattle.aas_value_update.proofs.Fitting.{opened, AreFitting, level_from, level_to}
use Rattle.aas_value_update.proofs.Joined.{PartJoins, joining_parts}
use Rattle.aas_value_update.proofs.OneForm.{apart_in}
use Rattle.aas_value_update.proofs.Order.{names_below}
use Rattle.aas_value_update.proofs.Own.{ApartIn}
use Rattle.aas_value_update.proofs.Pairs.{Pairs, put_together, AreParts, elements_are_parts, children_same, related}
use Rattle.aas_value_update.proofs.SameParts.{SameFit, fits_same, same_fit_parts, SameLay}
use Rattle.aas_value_update.proofs.SameParts.{same_lay_forms, same_lay_parts}
use Rattle.aas_value_update.proofs.Sent.{IfOrdered, sent_ordered, IfShaped, AreShaped, shape_out, shape_from}

abbrev entire_over : Element-F Part → Part
entire_over e = part e.common.id_short (form_of e.payload e.kids)

-- an element as a part of which each part below has a form of its own
pub entire : Element → Part
entire = fold-Element Part entire_over

pub entire_out : (e : Element)
    → entire e ≡ part (id_short_of e) (form_of (out-Element e).payload (map entire (kids_of e)))
unfolding entire
entire_out e = fold_out-Element Part entire_over e

-- ---- the same value form

pub entire_child : (e : Element) → (entire e).child ≡ (part_of e).child
entire_child = by_children (λ e. (entire e).child ≡ (part_of e).child) (λ r c x ks each.
    level (made r c x ks) (subst (Each (λ e. (entire e).child ≡ (part_of e).child)) (sym (kids_made r c x ks)) each))
  where
    all : (ks : List Element) → Each (λ e. (entire e).child ≡ (part_of e).child) ks
        → children (map entire ks) ≡ children (map part_of ks)
    all [] each = refl
    all (k ∷ ks) each = ap₂ (λ c cs. c ∷ cs) each.0 (all ks each.1)

    level : (e : Element)
        → Each (λ k. (entire k).child ≡ (part_of k).child) (kids_of e) → (entire e).child ≡ (part_of e).child
    level e each =
        let x = (out-Element e).payload in
        ap (λ (y : Part). y.child) (entire_out e)
        ∙ ap (λ (f : Option Data). record { name = id_short_of e; form = f })
        (same_value extent.WithBlobValue x (map entire (kids_of e)) (map part_of (kids_of e)) (all (kids_of e) each))
        ∙ sym (ap (λ (y : Part). y.child) (part_out e))

entire_parts : AreParts entire part
entire_parts = record { out = entire_out; child = entire_child }

-- ---- elements that differ in values alone

pub lay_entire : (e u : Element) → NamesDiffer e → DifferInValues e u → (part_of e).lay ≡ (entire u).lay
lay_entire e u names differ =
    (related SameLay same_lay_parts part_of entire child_part part elements_are_parts entire_parts
    (λ n f g r. let s = same_lay_forms f g r in record { name = refl; there = s.0; same = s.1 }) e u names differ).same

pub fits_entire : (e u : Element) → NamesDiffer e → DifferInValues e u → (entire e).fits ≡ (entire u).fits
fits_entire e u names differ =
    (related SameFit same_fit_parts entire entire part part entire_parts
    entire_parts same_fit_parts.named e u names differ).same

pub joins_entire : (e : Element) → NamesDiffer e → PartJoins (entire e)
joins_entire e names =
    related (λ x y. PartJoins x) joining_parts entire entire part part
    entire_parts entire_parts joining_parts.named e e names refl

-- ---- the shape

-- an element's own part of a value, however its children are judged
own_part : (e : Element) → NamesDiffer e → (v : Data)
    → fits_form (form_of (out-Element e).payload (map part_of (kids_of e))) v
    ≡ fits_form (form_of (out-Element e).payload (map opened (map entire (kids_of e)))) v
unfolding element_in
own_part e names v =
    let x = (out-Element e).payload in
    let ks = kids_of e in
    fits_same (form_of x (map part_of ks)) (form_of x (map opened (map entire ks)))
    (put_together SameFit same_fit_parts x x (map part_of ks) (map opened (map entire ks)) refl
    (apart_in x ks (names [] e refl)) (pairs ks)) v
  where
    pairs : (ks : List Element) → Pairs SameFit (map part_of ks) (map opened (map entire ks))
    pairs [] = tt
    pairs (k ∷ ks) = (
      record {
        name = sym (ap (λ (c : Child). c.name) (entire_child k));
        there = sym (ap (λ (c : Child). is_some c.form) (entire_child k));
        same = ap (λ (y : Part). y.fits) (part_out k);
      },
      pairs ks,
    )

-- v has the shape of e exactly where it fits, if the names in it rise
Shapes : Element → Type 0
Shapes e = (v : Data) → NamesDiffer e
    → (IsOrdered v → HasShape e v → (entire e).fits v ≡ true) × ((entire e).fits v ≡ true → HasShape e v)

kids_fit : (ks : List Element) (ss : List (Option Data)) → Each Shapes ks
    → ((i : ℕ) (k : Element) → slice_get ks i ≡ Some k → NamesDiffer k) → Each IfOrdered ss → AreShaped ks ss
    → AreFitting (map entire ks) ss
unfolding Shapes
kids_fit [] ss each names order shaped = tt
kids_fit (k ∷ ks) [] each names order shaped = tt
kids_fit (k ∷ ks) (s ∷ ss) each names order shaped =
    (by_sent s order.0 shaped.0, kids_fit ks ss each.1 (λ i m. names (suc i) m) order.1 shaped.1)
  where
    by_sent : (s : Option Data) → IfOrdered s → IfShaped k s → fits_if (entire k).fits s ≡ true
    by_sent None order shaped = refl
    by_sent (Some d) order shaped = (each.0 d (names zero k refl)).0 order shaped

kids_shaped : (ks : List Element) (ss : List (Option Data)) → Each Shapes ks
    → ((i : ℕ) (k : Element) → slice_get ks i ≡ Some k → NamesDiffer k)
    → AreFitting (map entire ks) ss → AreShaped ks ss
unfolding Shapes
kids_shaped [] ss each names fits = tt
kids_shaped (k ∷ ks) [] each names fits = tt
kids_shaped (k ∷ ks) (s ∷ ss) each names fits =
    (by_sent s fits.0, kids_shaped ks ss each.1 (λ i m. names (suc i) m) fits.1)
  where
    by_sent : (s : Option Data) → fits_if (entire k).fits s ≡ true → IfShaped k s
    by_sent None fits = tt
    by_sent (Some d) fits = (each.0 d (names zero k refl)).1 fits

level_shapes : (e : Element) → Each Shapes (kids_of e) → Shapes e
unfolding Shapes element_in
level_shapes e each v names =
    let x = (out-Element e).payload in
    let ks = kids_of e in
    let xs = map entire ks in
    let same : children xs ≡ children (map part_of ks) = children_same entire entire_child ks in
    let all = ap (λ (y : Part). y.fits v) (entire_out e) in
    let below = names_below e names in
    let apart = subst (ApartIn x) (sym same) (apart_in x ks (names [] e refl)) in (
      λ order shape.
          let level = shape_out e v shape in
          all ∙ level_from x xs v order (sym (own_part e names v) ∙ level.own)
          (kids_fit ks (sent x (children xs) v) each below (sent_ordered x xs v order)
          (subst (λ cs. AreShaped ks (sent x cs v)) (sym same) level.kids)),
      λ fits.
          let both = level_to x xs v apart (sym all ∙ fits) in
          shape_from e v (record {
            own = own_part e names v ∙ both.0;
            kids =
                kids_shaped ks (sent x (children (map part_of ks)) v) each below
                (subst (λ cs. AreFitting xs (sent x cs v)) same both.1);
          }),
    )

shapes : (e : Element) → Shapes e
unfolding Shapes
shapes = by_children Shapes (λ r c x ks each.
    level_shapes (made r c x ks) (subst (Each Shapes) (sym (kids_made r c x ks)) each))

pub fits_shape : (e : Element) (v : Data) → NamesDiffer e → IsOrdered v → HasShape e v → (entire e).fits v ≡ true
unfolding Shapes
fits_shape e v names order shape = (shapes e v names).0 order shape

pub shape_fits : (e : Element) (v : Data) → NamesDiffer e → (entire e).fits v ≡ true → HasShape e v
unfolding Shapes
shape_fits e v names fits = (shapes e v names).1 fits
