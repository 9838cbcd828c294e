-- The value form of an element leaves nothing out.
use Rattle.std.proofs.Common.{◌≡◌, ℕ, zero, suc, Bool, true, false, List, [], ◌∷◌, map, Option, Some, None}
use Rattle.std.proofs.Common.{is_some, is_none}
use Rattle.std.proofs.Common.{option_and_then, slice_get, refl, sym, ap, ap₂, ◌∙◌, subst, true≢false}
use Rattle.std.specs.Prelude.{if◌then◌else◌}
use Rattle.std.specs.Str.{encode_utf8_all}
use Rattle.std.proofs.lemmas.Bool.{and_from}
use Rattle.serde_json.specs.Data.{Data, object, Items, Members, no_members}
use Rattle.serde_json.specs.Find.{get, get_member}
use Rattle.aas_lemmas.proofs.Truth.{None-from_is_some}
use Rattle.aas_json_spelling.specs.Lists.{Each}
use Rattle.aas_json_mapping.specs.Whole.{Placed, admits, is_placed}
use Rattle.aas_json_mapping.proofs.Elements.{made, made_out, by_children, seen, standing, Stands}
use Rattle.aas_model.specs.declared.element.Element.{Element, out-Element}
use Rattle.aas_model.specs.declared.payload.Payload.{Payload}
use Rattle.aas_model.specs.declared.payload.Payload.TheVariants as p
use Rattle.aas_path_trees.specs.Children.{kids_of}
use Rattle.aas_path_trees.specs.Places.{element_in}
use Rattle.aas_value.specs.ValueForm.{shows_children}
use Rattle.aas_value_update.specs.Forms.{form_of, part_of}
use Rattle.aas_value_update.specs.Laws.{IsInOrder}
use Rattle.aas_value.specs.Parts.{Part, is_called, by_name, children, value}
use Rattle.aas_value_update.specs.Shape.{by_names, next_item, in_turn, by_entries, sent}
use Rattle.aas_value_update.proofs.Alone.{kids_made}
use Rattle.aas_value_update.proofs.Elements.{part_out}
use Rattle.aas_value_update.proofs.Laid.{form, get_children, own_entry, form_members, form_items, items_with}
use Rattle.aas_value_update.proofs.Laid.{form_entries}
use Rattle.aas_value_update.proofs.Named.{IsNew, Apart, not_called, called_itself}
use Rattle.aas_value_update.proofs.OneForm.{apart_in}
use Rattle.aas_value_update.proofs.Order.{order_below}
use Rattle.aas_value_update.proofs.Own.{ApartIn}
use Rattle.aas_value_laws.specs.Full.{has_attributes, one_has_all, each_has_all, full}
use Rattle.aas_value_laws.specs.Laws.{OwnFormHasAll}
use Rattle.aas_value_laws.proofs.Full.{part_is, has_all_is}

-- ---- what a form sends for its parts

new_name : (n : List ℕ) (xs : List Part) → IsNew n (children xs) → (z : Option Data)
    → by_name (encode_utf8_all n) form xs z ≡ z
new_name n [] new z = refl
new_name n (x ∷ xs) new z =
    new_name n xs new.1 (if is_called (encode_utf8_all n) x.child then form x else z)
    ∙ ap (λ b. if b then form x else z) (not_called n x.child.name x.child.form new.0)

-- under the name of each part stands its form
forms_named : (ms : Members) (xs : List Part) (z : List ℕ → Option Data) → Apart (children xs)
    → ((n : List ℕ) → get_member n ms ≡ by_name n form xs (z n)) → by_names (children xs) (object ms) ≡ map form xs
forms_named ms [] z apart found = refl
forms_named ms (x ∷ xs) z apart found =
    ap₂ (λ s ss. s ∷ ss) (by_form (is_some (form x)) refl)
    (forms_named ms xs (λ n. if is_called n x.child then form x else z n) apart.1 found)
  where
    by_form : (b : Bool) → is_some (form x) ≡ b
        → (if b then option_and_then (λ m. get (encode_utf8_all m) (object ms)) x.child.name else None) ≡ form x
    by_form false none = sym (None-from_is_some (form x) none)
    by_form true there =
        let n = apart.0.0 in
        ap (option_and_then (λ m. get (encode_utf8_all m) (object ms))) apart.0.1
        ∙ found (encode_utf8_all n)
        ∙ new_name n xs apart.0.2 (if is_called (encode_utf8_all n) x.child then form x else z (encode_utf8_all n))
        ∙ ap (λ b. if b then form x else z (encode_utf8_all n))
        (called_itself n x.child.name x.child.form apart.0.1 there)

forms_in_turn : (xs : List Part) → in_turn (children xs) (form_items xs) ≡ map form xs
forms_in_turn [] = refl
forms_in_turn (x ∷ xs) = by_form (form x) (forms_in_turn xs)
  where
    by_form : (o : Option Data) → in_turn (children xs) (form_items xs) ≡ map form xs
        → (if is_some o then next_item (in_turn (children xs)) (items_with o xs)
        else None ∷ in_turn (children xs) (items_with o xs))
        ≡ o ∷ map form xs
    by_form None more = ap (λ ss. None ∷ ss) more
    by_form (Some d) more = ap (λ ss. Some d ∷ ss) more

forms_by_entries : (xs : List Part) → Apart (children xs) → by_entries (children xs) (form_entries xs) ≡ map form xs
forms_by_entries [] apart = refl
forms_by_entries (x ∷ xs) apart =
    ap (λ (e : Option Data × Items). e.0 ∷ by_entries (children xs) e.1) (own_entry apart.0.0 x xs apart.0.1)
    ∙ ap (λ ss. form x ∷ ss) (forms_by_entries xs apart.1)

-- ---- kinds

-- each attribute has its member in w, and what w sends for each part is the part's form
abbrev SendsForms : Payload → List Part → Data → Type 0
SendsForms x xs w =
    (has_attributes (form_of x []) w ≡ true) × (shows_children x ≡ true → sent x (children xs) w ≡ map form xs)

abbrev IfForm : Payload → List Part → Option Data → Type 0
IfForm x xs None = Unit {0}
IfForm x xs (Some w) = SendsForms x xs w

named_sent : (xs : List Part) → Apart (children xs) → by_names (children xs) (object (form_members xs)) ≡ map form xs
named_sent xs apart = forms_named (form_members xs) xs (λ n. None) apart (λ n. get_children n xs no_members)

kind_sends : (x : Payload) (xs : List Part) → ApartIn x (children xs) → IfForm x xs (value (form_of x xs))
unfolding lib.Utf8.encode
kind_sends (p.AnnotatedRelationshipElement a b) xs apart = (refl, λ shown. forms_by_entries xs apart)
kind_sends (p.Entity t g ids) xs apart = (refl, λ shown. named_sent xs apart)
kind_sends p.SubmodelElementCollection xs apart = (refl, λ shown. named_sent xs apart)
kind_sends (p.SubmodelElementList o s t a) xs apart = (refl, λ shown. forms_in_turn xs)
kind_sends p.Capability xs apart = tt
kind_sends p.Operation xs apart = tt
kind_sends _ xs apart = (refl, λ shown. absurd (true≢false (sym shown)))

-- what has a form and shows no children has none
no_place : (x : Payload) (xs : List Part) (w : Data) (c : Placed) → value (form_of x xs) ≡ Some w
    → shows_children x ≡ false → admits x c ≡ true → ⊥
no_place (p.AnnotatedRelationshipElement a b) xs w c is hidden admitted = true≢false hidden
no_place (p.Entity t g ids) xs w c is hidden admitted = true≢false hidden
no_place p.SubmodelElementCollection xs w c is hidden admitted = true≢false hidden
no_place (p.SubmodelElementList o s t a) xs w c is hidden admitted = true≢false hidden
no_place p.Operation xs w c is hidden admitted = absurd (cc)
no_place p.Capability xs w c is hidden admitted = true≢false (sym admitted)
no_place _ xs w c is hidden admitted = true≢false (sym admitted)

no_kids : (x : Payload) (ks : List Element) (xs : List Part) (w : Data) → value (form_of x xs) ≡ Some w
    → shows_children x ≡ false → Each (Stands x) ks → ks ≡ []
no_kids x [] xs w is hidden stand = refl
no_kids x (k ∷ ks) xs w is hidden stand = absurd (no_place x xs w (seen k) is hidden stand.0.admitted)

-- ---- elements

HasAll : Element → Type 0
HasAll e = IsInOrder e → one_has_all (full e) (form (part_of e)) ≡ true

kids_have : (ks : List Element) → Each HasAll ks → ((i : ℕ) (k : Element) → slice_get ks i ≡ Some k → IsInOrder k)
    → each_has_all (map full ks) (map form (map part_of ks)) ≡ true
unfolding HasAll
kids_have [] each order = refl
kids_have (k ∷ ks) each order =
    and_from _ _ (each.0 (order zero k refl)) (kids_have ks each.1 (λ i m. order (suc i) m))

level_has : (e : Element) → Each HasAll (kids_of e) → HasAll e
unfolding HasAll element_in
level_has e each order = by_form (form (part_of e)) refl
  where
    x : Payload
    x = (out-Element e).payload

    xs : List Part
    xs = map part_of (kids_of e)

    by_shows : (w : Data) → value (form_of x xs) ≡ Some w → SendsForms x xs w → (b : Bool) → shows_children x ≡ b
        → each_has_all (map full (kids_of e)) (sent x (children xs) w) ≡ true
    by_shows w is sends true shown =
        ap (each_has_all (map full (kids_of e))) (sends.1 shown) ∙ kids_have (kids_of e) each (order_below e order)
    by_shows w is sends false hidden =
        let y = out-Element e in
        let stand = (standing y.role y.common y.payload y.kids (ap is_placed (made_out e) ∙ order.placed)).each in
        ap (λ ks. each_has_all (map full ks) (sent x (children xs) w)) (no_kids x (kids_of e) xs w is hidden stand)

    by_form : (o : Option Data) → form (part_of e) ≡ o → one_has_all (full e) o ≡ true
    by_form None is = ap (λ (y : Part). is_none y.child.form) (part_is e) ∙ ap (λ (o : Option Data). is_none o) is
    by_form (Some w) is =
        let there = sym (ap form (part_out e)) ∙ is in
        let sends = subst (IfForm x xs) there (kind_sends x xs (apart_in x (kids_of e) (order.names [] e refl))) in
        has_all_is e w ∙ and_from _ _ sends.0 (by_shows w there sends (shows_children x) refl)

all_have : (e : Element) → HasAll e
unfolding HasAll
all_have =
    by_children HasAll (λ r c x ks each.
    level_has (made r c x ks) (subst (Each HasAll) (sym (kids_made r c x ks)) each))

pub own_form_has_all : OwnFormHasAll
unfolding HasAll
own_form_has_all e w order is =
    sym (ap (one_has_all (full e)) is) ∙ all_have e order
