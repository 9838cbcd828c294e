-- The law of one form: elements that an update could make of one another,
-- and that have the same value form, are the same.
use Rattle.std.proofs.Common.{◌≡◌, ℕ, zero, suc, Bool, true, false, List, [], ◌∷◌, map, Option, Some, None, IsSome}
use Rattle.std.proofs.Common.{is_some, slice_get, refl, sym, ap, ap₂, ◌∙◌, subst}
use Rattle.std.specs.Prelude.{if◌then◌else◌}
use Rattle.aas_model_names.specs.declared.modifiers.Extent.TheVariants as extent
use Rattle.aas_model.specs.declared.common.Common.{Common}
use Rattle.aas_model.specs.declared.element.Element.{Element, out-Element, out-roll-Element}
use Rattle.aas_model.specs.declared.payload.Payload.{Payload}
use Rattle.aas_model.specs.declared.payload.Payload.TheVariants as p
use Rattle.aas_json_mapping.proofs.Elements.{made, by_children}
use Rattle.aas_json_spelling.specs.Lists.{Each}
use Rattle.aas_path_trees.specs.Children.{kids_of, id_short_of, is_list_payload}
use Rattle.aas_path_trees.specs.Places.{element_in, Differ}
use Rattle.aas_value.specs.Children.{Child}
use Rattle.aas_value.specs.ValueForm.{value_form, shows_children}
use Rattle.aas_value.specs.Parts.{Part, children, value}
use Rattle.aas_value_update.specs.Forms.{form_of, part_of}
use Rattle.aas_value_update.specs.LeftAlone.{has_value, left_alone}
use Rattle.aas_value_update.specs.Laws.{NamesDiffer, OneForm}
use Rattle.aas_value_update.specs.Took.{AreNamed, NamedIn}
use Rattle.aas_value_update.proofs.Alone.{Level, level, whole, value_bare}
use Rattle.aas_value_update.proofs.Elements.{part_out}
use Rattle.aas_value_update.proofs.Rest.{left_alone_is}
use Rattle.aas_value_update.proofs.Named.{IsNew, Apart, Alike}
use Rattle.aas_value_update.proofs.Order.{names_below}
use Rattle.aas_value_update.proofs.Own.{same_own, ApartIn, same_with_children}

-- ---- what is left alone shows

form_there : (x : Payload) (xs : List Part) → is_some (value (form_of x xs)) ≡ has_value x
form_there p.Capability xs = refl
form_there p.Operation xs = refl
form_there _ xs = refl

child_out : (e : Element)
    → (part_of e).child ≡ record {
      name = id_short_of e;
      form = value (form_of (out-Element e).payload (map part_of (kids_of e)));
    }
child_out e = ap (λ (x : Part). x.child) (part_out e)

pub heads : (u e : Element) → left_alone u ≡ left_alone e
    → ((part_of u).child.name ≡ (part_of e).child.name)
    × (is_some (part_of u).child.form ≡ is_some (part_of e).child.form)
heads u e h =
    let l = level u e h in
    let x = (out-Element u).payload in
    let y = (out-Element e).payload in (
      ap (λ (c : Child). c.name) (child_out u) ∙ ap (λ (c : Common). c.id_short) l.same.commons
          ∙ sym (ap (λ (c : Child). c.name) (child_out e)),
      ap (λ (c : Child). is_some c.form) (child_out u) ∙ form_there x (map part_of (kids_of u)) ∙ sym (value_bare x)
          ∙ ap has_value l.same.payloads ∙ value_bare y ∙ sym (form_there y (map part_of (kids_of e)))
          ∙ sym (ap (λ (c : Child). is_some c.form) (child_out e)),
    )

pub alike_kids : (us ks : List Element)
    → map left_alone us ≡ map left_alone ks → Alike (children (map part_of us)) (children (map part_of ks))
alike_kids [] [] e = tt
alike_kids [] (k ∷ ks) e = cc
alike_kids (u ∷ us) [] e = cc
alike_kids (u ∷ us) (k ∷ ks) e =
    let head : left_alone u ≡ left_alone k = cc in
    let tail : map left_alone us ≡ map left_alone ks = cc in
    (heads u k head, alike_kids us ks tail)

-- ---- names that differ

name_is : (e : Element) → (part_of e).child.name ≡ id_short_of e
name_is e = ap (λ (c : Child). c.name) (child_out e)

new_of : (n : List ℕ) (ks : List Element)
    → ((i : ℕ) (k : Element) → slice_get ks i ≡ Some k → id_short_of k ≡ Some n → ⊥)
    → IsNew n (children (map part_of ks))
new_of n [] h = tt
new_of n (k ∷ ks) h = ((λ e. h zero k refl (sym (name_is k) ∙ e)), new_of n ks (λ i j. h (suc i) j))

some_name : (o : Option (List ℕ)) → IsSome o → (n : List ℕ) × (o ≡ Some n)
some_name None h = absurd (cc)
some_name (Some n) h = (n, refl)

zero_suc : (i : ℕ) → zero ≡ suc i → ⊥
zero_suc i e = cc

suc_same : (i j : ℕ) → suc i ≡ suc j → i ≡ j
suc_same i j e = cc

pub apart_of : (ks : List Element) → Differ ks → Apart (children (map part_of ks))
apart_of [] d = tt
apart_of (k ∷ ks) d =
    let n = some_name (id_short_of k) (d.named zero k refl) in (
      (
        n.0,
        name_is k ∙ n.1,
        new_of n.0 ks (λ i m there same. zero_suc i (d.apart zero (suc i) k m refl there (n.1 ∙ sym same))),
      ),
      apart_of ks (record {
        named = λ i m. d.named (suc i) m;
        apart = λ i j m l a b s. suc_same i j (d.apart (suc i) (suc j) m l a b s);
      }),
    )

names_of : (ks : List Element) → Apart (children (map part_of ks)) → AreNamed (map part_of ks)
names_of [] a = tt
names_of (k ∷ ks) a = ((a.0.0, a.0.1), names_of ks a.1)

pub named_in : (x : Payload) (ks : List Element)
    → (shows_children x ≡ true → is_list_payload x ≡ false → Differ ks) → NamedIn x (map part_of ks)
named_in (p.AnnotatedRelationshipElement a b) ks d = names_of ks (apart_of ks (d refl refl))
named_in p.Capability ks d = tt
named_in _ ks d = tt

-- ---- elements

IsOne : Element → Type 0
IsOne e = (u : Element)
    → NamesDiffer e → left_alone u ≡ left_alone e → (part_of u).child.form ≡ (part_of e).child.form → u ≡ e

same_kids : (us ks : List Element) → Each IsOne ks → ((i : ℕ) (k : Element) → slice_get ks i ≡ Some k → NamesDiffer k)
    → map left_alone us ≡ map left_alone ks → children (map part_of us) ≡ children (map part_of ks) → us ≡ ks
unfolding IsOne
same_kids [] [] each names h e = refl
same_kids [] (k ∷ ks) each names h e = cc
same_kids (u ∷ us) [] each names h e = cc
same_kids (u ∷ us) (k ∷ ks) each names h e =
    let head : left_alone u ≡ left_alone k = cc in
    let tail : map left_alone us ≡ map left_alone ks = cc in
    let first : (part_of u).child ≡ (part_of k).child = cc in
    let rest : children (map part_of us) ≡ children (map part_of ks) = cc in
    ap₂ (λ z zs. z ∷ zs) (each.0 u (names zero k refl) head (ap (λ (c : Child). c.form) first))
    (same_kids us ks each.1 (λ i m. names (suc i) m) tail rest)

pub apart_in : (x : Payload) (ks : List Element)
    → (shows_children x ≡ true → is_list_payload x ≡ false → Differ ks) → ApartIn x (children (map part_of ks))
apart_in (p.AnnotatedRelationshipElement a b) ks d = apart_of ks (d refl refl)
apart_in (p.Entity t g ids) ks d = apart_of ks (d refl refl)
apart_in p.SubmodelElementCollection ks d = apart_of ks (d refl refl)
apart_in p.Capability ks d = tt
apart_in _ ks d = tt

one_level : (u e : Element) → Each IsOne (kids_of e) → NamesDiffer e
    → left_alone u ≡ left_alone e → (part_of u).child.form ≡ (part_of e).child.form → u ≡ e
unfolding element_in
one_level u e each names h form =
    let l = level u e h in
    let forms = sym (ap (λ (c : Child). c.form) (child_out u)) ∙ form ∙ ap (λ (c : Child). c.form) (child_out e) in
    by_shows (shows_children (out-Element e).payload) refl l forms
  where
    by_shows : (t : Bool) → shows_children (out-Element e).payload ≡ t → Level u e
        → value (form_of (out-Element u).payload (map part_of (kids_of u)))
        ≡ value (form_of (out-Element e).payload (map part_of (kids_of e)))
        → u ≡ e
    by_shows false s l forms =
        let kids : kids_of u ≡ kids_of e =
        ap (λ t. if t then map left_alone (kids_of u) else kids_of u) (sym (l.shows ∙ s))
        ∙ l.same.kids ∙ ap (λ t. if t then map left_alone (kids_of e) else kids_of e) s in
        whole u e l
        (same_own (out-Element u).payload (out-Element e).payload (map part_of (kids_of u)) (map part_of (kids_of e))
        (l.shows ∙ s) l.same.payloads forms)
        kids
    by_shows true s l forms =
        let kids : map left_alone (kids_of u) ≡ map left_alone (kids_of e) =
        ap (λ t. if t then map left_alone (kids_of u) else kids_of u) (sym (l.shows ∙ s))
        ∙ l.same.kids ∙ ap (λ t. if t then map left_alone (kids_of e) else kids_of e) s in
        let apart = apart_in (out-Element e).payload (kids_of e) (names [] e refl) in
        let both =
        same_with_children (out-Element e).payload (out-Element u).payload
        (map part_of (kids_of e)) (map part_of (kids_of u)) s (sym l.same.payloads) apart
        (alike_kids (kids_of e) (kids_of u) (sym kids)) (sym forms) in
        whole u e l (sym both.0) (same_kids (kids_of u) (kids_of e) each (names_below e names) kids (sym both.1))

is_one : (e : Element) → IsOne e
unfolding IsOne
is_one = by_children IsOne (λ r c x ks each u names h form.
    one_level u (made r c x ks)
    (subst (Each IsOne)
    (sym (ap (λ z. z.kids) (out-roll-Element (record { common = c; payload = x; role = r; kids = ks })))) each)
    names h form)

pub one_alone : (e u : Element) → NamesDiffer e → left_alone u ≡ left_alone e
    → value_form extent.WithBlobValue u ≡ value_form extent.WithBlobValue e → u ≡ e
unfolding IsOne
one_alone e u names rest form = is_one e u names rest form

pub one_form : OneForm
one_form e u order differ operations form =
    one_alone e u order.names (left_alone_is e u order.placed differ operations) form
