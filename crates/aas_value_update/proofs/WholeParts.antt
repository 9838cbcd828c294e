-- The parts of a whole element stay whole in an update.
use Rattle.std.proofs.Common.{◌≡◌, ℕ, zero, suc, ◌&&◌, Bool, true, false, List, [], ◌∷◌, map, Option, Some, None}
use Rattle.std.proofs.Common.{is_some, option_map, slice_get, refl, sym, ap, ◌∙◌, subst, true≢false}
use Rattle.std.specs.Prelude.{if◌then◌else◌}
use Rattle.std.specs.List.{list_all}
use Rattle.std.proofs.lemmas.Bool.{and_parts, and_from}
use Rattle.aas_constraint_laws.proofs.StaysWhole.{all_parts}
use Rattle.serde_json.specs.Data.{Data}
use Rattle.aas_json_table.specs.TooDeep.{limits}
use Rattle.aas_json_spelling.specs.Lists.{Each}
use Rattle.aas_json_spelling.specs.Values.{IsOrdered}
use Rattle.aas_json_mapping.specs.Whole.{has_whole_parts, whole_common, whole_payload}
use Rattle.aas_json_mapping.proofs.Elements.{made, by_children}
use Rattle.aas_model_names.specs.declared.modifiers.Extent.TheVariants as extent
use Rattle.aas_model.specs.declared.common.Common.{Common}
use Rattle.aas_model.specs.declared.element.Element.{Element, out-Element, fold_out-Element}
use Rattle.aas_model.specs.declared.element.Element.TheFolds.{fold-roll-Element}
use Rattle.aas_model.specs.declared.element.Role.{Role}
use Rattle.aas_model.specs.declared.payload.Payload.{Payload}
use Rattle.aas_path_trees.specs.Children.{kids_of}
use Rattle.aas_path_trees.specs.Places.{element_in}
use Rattle.aas_value.specs.Children.{Child}
use Rattle.aas_value.specs.ValueForm.{value_form, shows_children}
use Rattle.aas_value.specs.Parts.{Part, children, over, value, lay_form}
use Rattle.aas_value_update.specs.Forms.{form_of, part_of, lay}
use Rattle.aas_value_update.specs.Laws.{NamesDiffer, IsInOrder}
use Rattle.aas_value_update.specs.LeftAlone.{left_alone}
use Rattle.aas_value_update.specs.Shape.{HasShape, sent}
use Rattle.aas_value_update.specs.Update.{IsElementUpdate}
use Rattle.aas_value_update.proofs.Alone.{Level, level, kids_made}
use Rattle.aas_value_update.proofs.Elements.{part_out}
use Rattle.aas_value_update.proofs.Laid.{over_none}
use Rattle.aas_value_update.proofs.OneForm.{alike_kids, apart_in, named_in, one_alone}
use Rattle.aas_value_update.proofs.OneUpdate.{names_alike}
use Rattle.aas_value_update.proofs.Order.{names_below}
use Rattle.aas_value_update.proofs.Rest.{left_alone_is}
use Rattle.aas_value_update.proofs.Sent.{IfOrdered, sent_ordered, IfShaped, AreShaped, IsShapedLevel, shape_out}
use Rattle.aas_value_update.proofs.Sent.{form_there}
use Rattle.aas_value_update.proofs.TakenKids.{all_taken, children_taken}
use Rattle.aas_value_update.proofs.WholeOwn.{own_whole}

-- ---- parts, one level at a time

whole_out : (e : Element)
    → has_whole_parts limits e ≡ (whole_common limits (out-Element e).common
    && whole_payload limits (out-Element e).payload && list_all (has_whole_parts limits) (kids_of e))
whole_out e =
    fold_out-Element Bool
    (λ x. whole_common limits x.common && whole_payload limits x.payload && list_all (λ b. b) x.kids) e
    ∙ ap (λ b. whole_common limits (out-Element e).common && whole_payload limits (out-Element e).payload && b)
    (all_parts (kids_of e))

pub whole_made : (r : Role) (c : Common) (x : Payload) (ks : List Element)
    → has_whole_parts limits (made r c x ks)
    ≡ (whole_common limits c && whole_payload limits x && list_all (has_whole_parts limits) ks)
whole_made r c x ks =
    fold-roll-Element Bool
    (λ x. whole_common limits x.common && whole_payload limits x.payload && list_all (λ b. b) x.kids)
    (record { common = c; payload = x; role = r; kids = ks })
    ∙ ap (λ b. whole_common limits c && whole_payload limits x && b) (all_parts ks)

StaysWhole : Element → Type 0
StaysWhole e = (u : Element) (v : Data) → NamesDiffer e → left_alone u ≡ left_alone e → IsOrdered v → HasShape e v
    → (part_of u).child.form ≡ over (part_of e).lay (part_of e).child.form (Some v) → has_whole_parts limits e ≡ true
    → has_whole_parts limits u ≡ true

child_whole : (k u : Element) (s : Option Data)
    → StaysWhole k → NamesDiffer k → left_alone u ≡ left_alone k → IfOrdered s → IfShaped k s
    → (part_of u).child.form ≡ over (part_of k).lay (part_of k).child.form s → has_whole_parts limits k ≡ true
    → has_whole_parts limits u ≡ true
unfolding StaysWhole
child_whole k u None stays names rest order shape form whole =
    let forms = form ∙ sym (over_none (part_of k).lay (part_of k).child.form) in
    ap (has_whole_parts limits) (one_alone k u names rest forms) ∙ whole
child_whole k u (Some d) stays names rest order shape form whole = stays u d names rest order shape form whole

kids_whole : (ks us : List Element) (ss : List (Option Data)) → Each StaysWhole ks
    → ((i : ℕ) (k : Element) → slice_get ks i ≡ Some k → NamesDiffer k) → map left_alone us ≡ map left_alone ks
    → children (map part_of us) ≡ children (all_taken (map part_of ks) ss) → Each IfOrdered ss → AreShaped ks ss
    → list_all (has_whole_parts limits) ks ≡ true → list_all (has_whole_parts limits) us ≡ true
kids_whole [] [] ss each names rest taken order shape whole = refl
kids_whole [] (u ∷ us) ss each names rest taken order shape whole = absurd (cc)
kids_whole (k ∷ ks) [] ss each names rest taken order shape whole = absurd (cc)
kids_whole (k ∷ ks) (u ∷ us) [] each names rest taken order shape whole = absurd (cc)
kids_whole (k ∷ ks) (u ∷ us) (s ∷ ss) each names rest taken order shape whole =
    let head : left_alone u ≡ left_alone k = cc in
    let tail : map left_alone us ≡ map left_alone ks = cc in
    let first : (part_of u).child ≡ record (part_of k).child { form = over (part_of k).lay (part_of k).child.form s } =
    cc in
    let more : children (map part_of us) ≡ children (all_taken (map part_of ks) ss) = cc in
    let both = and_parts (has_whole_parts limits k) (list_all (has_whole_parts limits) ks) whole in
    and_from (has_whole_parts limits u) (list_all (has_whole_parts limits) us)
    (child_whole k u s each.0 (names zero k refl) head order.0 shape.0 (ap (λ (c : Child). c.form) first) both.0)
    (kids_whole ks us ss each.1 (λ i m. names (suc i) m) tail more order.1 shape.1 both.1)

whole_level : (e u : Element) (v : Data)
    → Each StaysWhole (kids_of e) → NamesDiffer e → left_alone u ≡ left_alone e → IsOrdered v
    → HasShape e v
    → (part_of u).child.form ≡ over (part_of e).lay (part_of e).child.form (Some v) → has_whole_parts limits e ≡ true
    → has_whole_parts limits u ≡ true
unfolding element_in
whole_level e u v each names rest order none form whole =
    let x = (out-Element e).payload in
    let y = (out-Element u).payload in
    let xs = map part_of (kids_of e) in
    let ys = map part_of (kids_of u) in
    let l = level u e rest in
    let shape = shape_out e v none in
    let forms : value (form_of y ys) ≡ over (lay_form (form_of x xs)) (value (form_of x xs)) (Some v) =
    sym (ap (λ (z : Part). z.child.form) (part_out u)) ∙ form
    ∙ ap (λ (z : Part). over z.lay z.child.form (Some v)) (part_out e) in
    let old = and_parts (whole_common limits (out-Element e).common && whole_payload limits x)
    (list_all (has_whole_parts limits) (kids_of e)) (sym (whole_out e) ∙ whole) in
    let own = and_parts (whole_common limits (out-Element e).common) (whole_payload limits x) old.0 in
    let common = ap (whole_common limits) l.same.commons ∙ own.0 in
    let payload = own_whole x y xs ys v order l.same.payloads shape.own forms own.1 in
    whole_out u
    ∙ and_from (whole_common limits (out-Element u).common && whole_payload limits y)
    (list_all (has_whole_parts limits) (kids_of u))
    (and_from (whole_common limits (out-Element u).common) (whole_payload limits y) common payload)
    (by_shows (shows_children x) refl l shape forms old.1)
  where
    by_shows : (b : Bool) → shows_children (out-Element e).payload ≡ b → Level u e → IsShapedLevel e v
        → value (form_of (out-Element u).payload (map part_of (kids_of u)))
        ≡ over (lay_form (form_of (out-Element e).payload (map part_of (kids_of e))))
        (value (form_of (out-Element e).payload (map part_of (kids_of e)))) (Some v)
        → list_all (has_whole_parts limits) (kids_of e) ≡ true → list_all (has_whole_parts limits) (kids_of u) ≡ true
    by_shows false s l shape forms kids =
        let same : kids_of u ≡ kids_of e =
        ap (λ b. if b then map left_alone (kids_of u) else kids_of u) (sym (l.shows ∙ s)) ∙ l.same.kids
        ∙ ap (λ b. if b then map left_alone (kids_of e) else kids_of e) s in
        ap (list_all (has_whole_parts limits)) same ∙ kids
    by_shows true s l shape forms kids =
        let same : map left_alone (kids_of u) ≡ map left_alone (kids_of e) =
        ap (λ b. if b then map left_alone (kids_of u) else kids_of u) (sym (l.shows ∙ s)) ∙ l.same.kids
        ∙ ap (λ b. if b then map left_alone (kids_of e) else kids_of e) s in
        let apart = apart_in (out-Element u).payload (kids_of u) (names_alike u e rest names [] u refl) in
        let taken =
        children_taken (out-Element e).payload (out-Element u).payload
        (map part_of (kids_of e)) (map part_of (kids_of u)) v s l.same.payloads apart
        (alike_kids (kids_of u) (kids_of e) same)
        (named_in (out-Element e).payload (kids_of e) (names [] e refl)) shape.own forms in
        kids_whole (kids_of e) (kids_of u)
        (sent (out-Element e).payload (children (map part_of (kids_of e))) v) each (names_below e names) same taken
        (sent_ordered (out-Element e).payload (map part_of (kids_of e)) v order) shape.kids kids

stays_whole : (e : Element) → StaysWhole e
unfolding StaysWhole
stays_whole = by_children StaysWhole (λ r c x ks each u v names rest order none form whole.
    whole_level (made r c x ks) u v
    (subst (Each StaysWhole) (sym (kids_made r c x ks)) each) names rest order none form whole)

-- ---- updates

pub parts_stay_whole : (e u : Element) (v : Data)
    → IsInOrder e → IsOrdered v → IsElementUpdate e v u → has_whole_parts limits e ≡ true
    → has_whole_parts limits u ≡ true
unfolding StaysWhole
parts_stay_whole e u v order ordered update whole =
    let rest = left_alone_is e u order.placed update.metadata update.operations in
    stays_whole e u v order.names rest ordered update.shape
    (by_form (value_form extent.WithBlobValue e) refl update.form) whole
  where
    by_form : (f : Option Data) → value_form extent.WithBlobValue e ≡ f
        → (part_of u).child.form ≡ option_map (λ w. lay e w v) (value_form extent.WithBlobValue e)
        → (part_of u).child.form ≡ over (part_of e).lay (part_of e).child.form (Some v)
    by_form None is form = absurd (true≢false (sym (form_there e v update.shape) ∙ ap is_some is))
    by_form (Some w) is form =
        form ∙ ap (option_map (λ w. lay e w v)) is
        ∙ sym (ap (λ (f : Option Data). over (part_of e).lay f (Some v)) is)
