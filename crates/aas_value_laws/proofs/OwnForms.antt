-- The value form of an element, to each extent, fits the element.
use Rattle.std.proofs.Common.{◌≡◌, ℕ, zero, suc, ◌&&◌, true, false, List, [], ◌∷◌, map, Some, is_some}
use Rattle.std.proofs.Common.{slice_get, refl, sym, ap, ap₂, ◌∙◌, subst}
use Rattle.std.specs.List.{list_all}
use Rattle.std.proofs.lemmas.Bool.{and_from}
use Rattle.aas_lemmas.proofs.Truth.{and_left, and_right}
use Rattle.aas_json_table.specs.TooDeep.{limits}
use Rattle.aas_json_spelling.specs.Lists.{Each}
use Rattle.aas_json_mapping.specs.Whole.{has_whole_parts, whole_common, whole_payload, is_whole_element}
use Rattle.aas_json_mapping.proofs.Elements.{made, made_out, by_children}
use Rattle.aas_model.specs.Element.{kind_of}
use Rattle.aas_model.specs.declared.documents.Submodel.{Submodel}
use Rattle.aas_model.specs.declared.element.Element.{Element, out-Element}
use Rattle.aas_model.specs.declared.element.Role.TheVariants as role
use Rattle.aas_model.specs.declared.payload.Payload.{Payload}
use Rattle.aas_model.specs.declared.payload.Payload.TheVariants as p
use Rattle.aas_model_names.specs.declared.modifiers.Extent.{Extent}
use Rattle.aas_model_names.specs.declared.modifiers.Extent.TheVariants as extent
use Rattle.aas_constraint_laws.proofs.StaysWhole.{parts_below, parts_below_child}
use Rattle.aas_constraint_rules.specs.Faults.{submodel}
use Rattle.aas_model.specs.Common.{no_attributes}
use Rattle.aas_constraint_laws.specs.Valid.{IsValid}
use Rattle.aas_path_trees.specs.Children.{kids_of}
use Rattle.aas_path_trees.specs.ElementAt.{child_by}
use Rattle.aas_path_trees.specs.Places.{element_in}
use Rattle.aas_path_trees.proofs.Paths.{child_by-there}
use Rattle.aas_value.specs.Children.{Child}
use Rattle.aas_value.specs.ValueForm.{value_form}
use Rattle.aas_value.specs.ValueForm as to_extent
use Rattle.aas_value.proofs.Forms.{form_out, name_out, same_value}
use Rattle.aas_value.proofs.Formless.{by_kind}
use Rattle.aas_value_update.specs.Forms.{form_of, part_of}
use Rattle.aas_value_update.specs.Laws.{NamesDiffer}
use Rattle.aas_value.specs.Parts.{Part, children, fits_if, fits_form}
use Rattle.aas_value_update.specs.Shape.{HasShape}
use Rattle.aas_value_update.specs.Took.{AreNamed, NamedIn}
use Rattle.aas_value_update.specs.Update.{body}
use Rattle.aas_value_update.proofs.Alone.{kids_made}
use Rattle.aas_value_update.proofs.Entire.{entire, entire_out, entire_child, shape_fits}
use Rattle.aas_value_update.proofs.OneForm.{apart_in, named_in}
use Rattle.aas_value_update.proofs.Order.{names_below, body_order, order_at}
use Rattle.aas_value_update.proofs.Own.{ApartIn}
use Rattle.aas_value_update.proofs.Pairs.{Pairs, put_together, children_same}
use Rattle.aas_value_update.proofs.SameParts.{SameFit, fits_same, same_fit_parts}
use Rattle.aas_value_update.proofs.WholeParts.{whole_made}
use Rattle.aas_value_laws.specs.Laws.{OwnFormFits, OwnValueFits}
use Rattle.aas_value_laws.proofs.OwnFits.{FitsItself, shown_fits}

-- an element as a part, with its value form to an extent
shown : Extent → Element → Part
shown y e = record (entire e) { child = (to_extent.part_of y e).child }

children_shown : (y : Extent) (ks : List Element)
    → children (map (shown y) ks) ≡ children (map (to_extent.part_of y) ks)
unfolding shown
children_shown y [] = refl
children_shown y (k ∷ ks) = ap (λ cs. (to_extent.part_of y k).child ∷ cs) (children_shown y ks)

-- the same name, and a value where there is one to any extent
same_name : (y : Extent) (e : Element) → (part_of e).child.name ≡ (shown y e).child.name
unfolding shown
same_name y e = name_out extent.WithBlobValue e ∙ sym (name_out y e)

same_there : (y : Extent) (e : Element) → is_some (entire e).child.form ≡ is_some (shown y e).child.form
unfolding shown
same_there y e =
    ap (λ (c : Child). is_some c.form) (entire_child e)
    ∙ by_kind extent.WithBlobValue e (kind_of e) refl ∙ sym (by_kind y e (kind_of e) refl)

pairs : (y : Extent) (ks : List Element) → Pairs SameFit (map entire ks) (map (shown y) ks)
unfolding shown
pairs y [] = tt
pairs y (k ∷ ks) = (
  record { name = ap (λ (c : Child). c.name) (entire_child k) ∙ same_name y k; there = same_there y k; same = refl },
  pairs y ks,
)

names_shown : (y : Extent) (ks : List Element) → AreNamed (map part_of ks) → AreNamed (map (shown y) ks)
names_shown y [] names = tt
names_shown y (k ∷ ks) names = ((names.0.0, sym (same_name y k) ∙ names.0.1), names_shown y ks names.1)

named_shown : (y : Extent) (x : Payload) (ks : List Element) → NamedIn x (map part_of ks) → NamedIn x (map (shown y) ks)
named_shown y (p.AnnotatedRelationshipElement a b) ks names = names_shown y ks names
named_shown y p.Capability ks names = tt
named_shown y _ ks names = tt

-- ---- elements

whole_out : (e : Element) → has_whole_parts limits e ≡ true
    → whole_common limits (out-Element e).common && whole_payload limits (out-Element e).payload
    && list_all (has_whole_parts limits) (kids_of e) ≡ true
whole_out e whole =
    let x = out-Element e in
    sym (ap (has_whole_parts limits) (sym (made_out e)) ∙ whole_made x.role x.common x.payload x.kids) ∙ whole

IsFitting : Extent → Element → Type 0
IsFitting y e = NamesDiffer e → has_whole_parts limits e ≡ true → FitsItself (shown y e)

kids_fit : (y : Extent) (ks : List Element) → Each (IsFitting y) ks
    → ((i : ℕ) (k : Element) → slice_get ks i ≡ Some k → NamesDiffer k)
    → list_all (has_whole_parts limits) ks ≡ true → Each FitsItself (map (shown y) ks)
unfolding IsFitting
kids_fit y [] each names whole = tt
kids_fit y (k ∷ ks) each names whole =
    let others = kids_fit y ks each.1 (λ i m. names (suc i) m) (and_right _ _ whole) in
    (each.0 (names zero k refl) (and_left _ _ whole), others)

level_fits : (y : Extent) (e : Element) → Each (IsFitting y) (kids_of e) → IsFitting y e
unfolding IsFitting shown element_in
level_fits y e each names whole =
    let x = (out-Element e).payload in
    let ks = kids_of e in
    let parts = whole_out e whole in
    let apart = subst (ApartIn x) (sym (children_same entire entire_child ks)) (apart_in x ks (names [] e refl)) in
    let forms = put_together SameFit same_fit_parts x x (map entire ks) (map (shown y) ks) refl apart (pairs y ks) in
    let test : (entire e).fits ≡ fits_form (form_of x (map (shown y) ks)) =
    ap (λ (z : Part). z.fits) (entire_out e)
    ∙ (λ i v. fits_same (form_of x (map entire ks)) (form_of x (map (shown y) ks)) forms v i) in
    let same = sym (children_shown y ks) in
    ap₂ fits_if test (form_out y e ∙ same_value y x (map (to_extent.part_of y) ks) (map (shown y) ks) same)
    ∙ shown_fits y x (map (shown y) ks) (and_right _ _ (and_left _ _ parts))
    (kids_fit y ks each (names_below e names) (and_right _ _ parts))
    (named_shown y x ks (named_in x ks (names [] e refl)))

is_fitting : (y : Extent) (e : Element) → IsFitting y e
unfolding IsFitting
is_fitting y = by_children (IsFitting y) (λ r c x ks each.
    level_fits y (made r c x ks) (subst (Each (IsFitting y)) (sym (kids_made r c x ks)) each))

pub own_form_fits : OwnFormFits
unfolding IsFitting shown
own_form_fits y e w order whole form =
    shape_fits e w order.names (sym (ap (fits_if (entire e).fits) form) ∙ is_fitting y e order.names whole)

-- ---- submodels

parts_whole : (ks : List Element) → list_all (is_whole_element limits) ks ≡ true
    → list_all (has_whole_parts limits) ks ≡ true
parts_whole [] whole = refl
parts_whole (k ∷ ks) whole =
    let own = and_left _ _ (and_left _ _ (and_right _ _ (and_left _ _ whole))) in
    and_from _ _ own (parts_whole ks (and_right _ _ whole))

kids_whole : (d : Submodel) → IsValid (submodel d) → list_all (has_whole_parts limits) d.kids ≡ true
kids_whole d valid = parts_whole d.kids (and_right _ _ valid.whole)

pub own_value_fits : OwnValueFits
own_value_fits y d [] e w valid there form =
    let same : body d ≡ e = cc in
    let whole = whole_made role.Member no_attributes p.SubmodelElementCollection d.kids ∙ kids_whole d valid in
    subst (λ z. HasShape z w) same
    (own_form_fits y (body d) w (body_order d valid) whole (ap (value_form y) same ∙ form))
own_value_fits y d (s ∷ q) e w valid there form =
    let whole = parts_below_child q d.kids e (λ k. parts_below q k e) (kids_whole d valid) (child_by false s d.kids)
    (λ c is. (child_by-there false s d.kids c is).1) there in
    own_form_fits y e w (order_at d (s ∷ q) e valid there) whole form
