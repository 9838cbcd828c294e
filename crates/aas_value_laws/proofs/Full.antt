-- What leaves nothing out, laid over the old value form, is itself: each name, place and entry of the form is in it.
use Rattle.std.proofs.Common.{◌≡◌, ℕ, zero, suc, ◌&&◌, Bool, true, false, List, [], ◌∷◌, map, codes, Option, Some, None}
use Rattle.std.proofs.Common.{is_some, is_none, slice_get, refl, sym, ap, ap₂, ◌∙◌, subst, true≢false}
use Rattle.std.specs.Prelude.{if◌then◌else◌}
use Rattle.std.specs.Str.{encode_utf8_all}
use Rattle.serde_json.specs.Data.{Data, array, object, Items, no_items, item, Members, no_members, member}
use Rattle.serde_json.specs.Find.{get_member}
use Rattle.aas_lemmas.proofs.Truth.{and_left, and_right}
use Rattle.aas_json_spelling.specs.Lists.{Each}
use Rattle.aas_json_spelling.specs.Values.{IsOrdered}
use Rattle.aas_json_mapping.proofs.Elements.{made, made_out, by_children}
use Rattle.aas_model.specs.declared.common.Common.{Common}
use Rattle.aas_model.specs.declared.element.Element.{Element, out-Element}
use Rattle.aas_model.specs.declared.element.Element.TheFolds.{fold-roll-Element}
use Rattle.aas_model.specs.declared.element.Role.{Role}
use Rattle.aas_model.specs.declared.payload.Payload.{Payload}
use Rattle.aas_model.specs.declared.payload.Payload.TheVariants as p
use Rattle.aas_path_trees.specs.Children.{kids_of}
use Rattle.aas_path_trees.specs.Places.{element_in}
use Rattle.aas_value.specs.Children.{Child, named, in_order, annotation_value}
use Rattle.aas_value.specs.ValueForm.{child_part}
use Rattle.aas_value_update.specs.Forms.{form_of, part_of, lay}
use Rattle.aas_value_update.specs.Laws.{NamesDiffer}
use Rattle.aas_value.specs.Parts.{Part, object_of, list_of, entries_of, is_called, name_is, by_name, children, value}
use Rattle.aas_value.specs.Parts.{later, over, laid, laid_items, entry, put_entry, laid_entries, lay_form, items_fit}
use Rattle.aas_value.specs.Parts.{entries_fit, fits_form}
use Rattle.aas_value_update.specs.Shape.{HasShape, under_name, by_names, next_item, in_turn, by_entries}
use Rattle.aas_value_update.specs.Shape.{items_in, if_sent, sent}
use Rattle.aas_value_update.specs.Took.{AreNamed, NamedIn}
use Rattle.aas_value_update.proofs.Alone.{kids_made}
use Rattle.aas_value_update.proofs.Canonical.{order_rises}
use Rattle.aas_value_update.proofs.Elements.{part_at, part_out}
use Rattle.aas_value_update.proofs.Laid.{form, get_children, get_laid, sent_fits, children_rise, laid_rises, own_entry}
use Rattle.aas_value_update.proofs.Laid.{form_members, form_items, items_with, form_entries, laid_first, fits_first}
use Rattle.aas_value_update.proofs.Laid.{lay_named}
use Rattle.aas_value_update.proofs.Members.{Rises, same_name, known}
use Rattle.aas_value_update.proofs.OneForm.{named_in}
use Rattle.aas_value_update.proofs.Order.{names_below}
use Rattle.aas_value_update.proofs.Sent.{IfOrdered, sent_ordered, IfShaped, AreShaped, shape_out}
use Rattle.aas_value_update.proofs.WholeOwn.{member_ordered, parts_in}
use Rattle.aas_value_laws.specs.Full.{has_attributes, Full, one_has_all, each_has_all, full_over, full}
use Rattle.aas_value_laws.specs.Full.{HasAllMembers}
use Rattle.aas_value_laws.specs.Laws.{WholeValueIsLaid}

-- what is sent for a part, laid over the part's value, is itself
abbrev Stays : Part → Option Data → Type 0
Stays x s = over x.lay x.child.form s ≡ s

abbrev AllStay : List Part → List (Option Data) → Type 0
AllStay [] ss = Unit {0}
AllStay (x ∷ xs) [] = Unit {0}
AllStay (x ∷ xs) (s ∷ ss) = Stays x s × AllStay xs ss

-- ---- objects

-- where each part that a name calls stays, so does what is sent under the name
named_stays : (n : List ℕ) (s : Option Data) (xs : List Part) → Each (λ x. is_called n x.child ≡ true → Stays x s) xs
    → (f : Data → Data → Data) (o : Option Data) → over f o s ≡ s
    → over (by_name n (λ x. x.lay) xs f) (by_name n form xs o) s ≡ s
named_stays n s [] each f o is = is
named_stays n s (x ∷ xs) each f o is =
    named_stays n s xs each.1 (if is_called n x.child then x.lay else f) (if is_called n x.child then form x else o)
    (by_test (is_called n x.child) refl)
  where
    by_test : (b : Bool) → is_called n x.child ≡ b → over (if b then x.lay else f) (if b then form x else o) s ≡ s
    by_test true called = each.0 called
    by_test false other = is

none_there : (s : Option Data) → over later None s ≡ s
none_there None = refl
none_there (Some d) = refl

members_stay : (xs : List Part) (ms : Members) → Rises ms
    → ((n : List ℕ) → Each (λ x. is_called n x.child ≡ true → Stays x (get_member n ms)) xs)
    → laid xs (form_members xs) ms ≡ ms
members_stay xs ms rises each =
    let old = form_members xs in
    known (laid xs old ms) ms (laid_rises xs old ms (children_rise xs no_members tt)) rises (λ n.
    get_laid n xs (form_members xs) ms
    ∙ ap (λ o. over (lay_named n xs) o (get_member n ms)) (get_children n xs no_members)
    ∙ named_stays n (get_member n ms) xs (each n) later None (none_there (get_member n ms)))

under_called : (n : List ℕ) (ms : Members) (o : Option (List ℕ)) (f : Option Data)
    → is_called n (record { name = o; form = f }) ≡ true
    → under_name (object ms) (record { name = o; form = f }) ≡ get_member n ms
under_called n ms None f is = absurd (true≢false (sym is))
under_called n ms (Some m) None is = absurd (true≢false (sym (and_right _ _ is)))
under_called n ms (Some m) (Some d) is =
    ap (λ k. get_member k ms) (sym (same_name n (encode_utf8_all m) (and_left _ _ is)))

each_named : (n : List ℕ) (ms : Members) (xs : List Part) → AllStay xs (by_names (children xs) (object ms))
    → Each (λ x. is_called n x.child ≡ true → Stays x (get_member n ms)) xs
each_named n ms [] all = tt
each_named n ms (x ∷ xs) all =
    ((λ is. subst (Stays x) (under_called n ms x.child.name x.child.form is) all.0), each_named n ms xs all.1)

object_stays : (xs : List Part) (v : Data) → IsOrdered v → fits_form (object_of xs) v ≡ true
    → AllStay xs (by_names (children xs) v)
    → lay_form (object_of xs) (named (children xs)) v ≡ v
object_stays xs (object ms) order fits all =
    ap object (members_stay xs ms (order_rises ms order) (λ n. each_named n ms xs all))
object_stays xs v order fits all = absurd (true≢false (sym fits))

-- an attribute that is there
attribute_stays : (w : Data) (s : Option Data) → is_some s ≡ true → over later (Some w) s ≡ s
attribute_stays w None there = absurd (true≢false (sym there))
attribute_stays w (Some d) there = refl

-- ---- arrays

items_stay : (xs : List Part) (ds : Items) → items_fit xs ds ≡ true → AllStay xs (in_turn (children xs) ds)
    → laid_items xs (form_items xs) ds ≡ ds
items_stay [] ds fits all = refl
items_stay (x ∷ xs) ds fits all = by_form (form x) refl ds fits all (λ es. items_stay xs es)
  where
    by_form : (f : Option Data) → form x ≡ f → (ds : Items) → fits_first (is_some f) x.fits (items_fit xs) ds ≡ true
        → AllStay (x ∷ xs) (if is_some f then next_item (in_turn (children xs)) ds else None ∷ in_turn (children xs) ds)
        → ((es : Items) → items_fit xs es ≡ true → AllStay xs (in_turn (children xs) es)
        → laid_items xs (form_items xs) es ≡ es)
        → laid_first (is_some f) x.lay (laid_items xs) (items_with f xs) ds ≡ ds
    by_form None e ds fits all more = more ds fits all.1
    by_form (Some w) e no_items fits all more = absurd (true≢false (sym fits))
    by_form (Some w) e (item d ds) fits all more =
        let stays : Some (x.lay w d) ≡ Some d = ap (λ (g : Option Data). over x.lay g (Some d)) (sym e) ∙ all.0 in
        let same : x.lay w d ≡ d = cc in
        ap₂ item same (more ds (and_right _ _ fits) all.1)

list_stays : (xs : List Part) (v : Data) → fits_form (list_of xs) v ≡ true
    → AllStay xs (in_turn (children xs) (items_in v))
    → lay_form (list_of xs) (in_order (children xs)) v ≡ v
list_stays xs (array ds) fits all = ap array (items_stay xs ds fits all)
list_stays xs v fits all = absurd (true≢false (sym fits))

-- ---- entries

named_entry : (n : List ℕ) (o : Option (List ℕ)) (d : Data) (ds : Items) → name_is n o ≡ true
    → put_entry (record { name = o; form = Some d }) (Some d) ds ≡ item (object (member n d no_members)) ds
named_entry n None d ds is = absurd (true≢false (sym is))
named_entry n (Some m) d ds is =
    ap (λ k. item (object (member k d no_members)) ds) (sym (same_name n (encode_utf8_all m) is))

put_back : (c : Child) (ds : Items) → put_entry c (entry c ds).0 (entry c ds).1 ≡ ds
put_back c (item (object (member n d no_members)) ds) = by_test (is_called n c) refl
  where
    chosen : Bool → Option Data × Items
    chosen b = if b then (Some d, ds) else (None, item (object (member n d no_members)) ds)

    by_test : (b : Bool) → is_called n c ≡ b
        → put_entry c (chosen b).0 (chosen b).1 ≡ item (object (member n d no_members)) ds
    by_test false is = refl
    by_test true is = named_entry n c.name d ds (and_left _ _ is)
put_back c ds = refl

entries_stay : (xs : List Part) (ds : Items) → AreNamed xs → entries_fit xs ds ≡ true
    → AllStay xs (by_entries (children xs) ds)
    → laid_entries xs (form_entries xs) ds ≡ ds
entries_stay [] no_items names fits all = refl
entries_stay [] (item d ds) names fits all = absurd (true≢false (sym fits))
entries_stay (x ∷ xs) ds names fits all =
    let v = entry x.child ds in
    ap (λ (w : Option Data × Items). put_entry x.child (over x.lay w.0 v.0) (laid_entries xs w.1 v.1))
    (own_entry names.0.0 x xs names.0.1)
    ∙ ap₂ (put_entry x.child) all.0 (entries_stay xs v.1 names.1 (and_right _ _ fits) all.1)
    ∙ put_back x.child ds

annotations_stay : (xs : List Part) (v : Data) → AreNamed xs → fits_form (entries_of xs) v ≡ true
    → AllStay xs (by_entries (children xs) (items_in v))
    → lay_form (entries_of xs) (in_order (map annotation_value (children xs))) v ≡ v
annotations_stay xs (array ds) names fits all = ap array (entries_stay xs ds names fits all)
annotations_stay xs v names fits all = absurd (true≢false (sym fits))

-- ---- children under a name of their parent

-- what is sent for a form is in order, and fits it
abbrev FitsForm : (Data → Bool) → Option Data → Type 0
FitsForm test s = (d : Data) → s ≡ Some d → IsOrdered d × (test d ≡ true)

form_fits : (n : List ℕ) (xs : List Part) (v : Data) → IsOrdered v → fits_form (object_of xs) v ≡ true
    → (s : Option Data)
    → under_name v (record { name = Some n; form = Some v }) ≡ s
    → FitsForm (by_name (encode_utf8_all n) (λ x. x.fits) xs (λ d. false)) s
form_fits n xs (object ms) order fits s is d there =
    let found = is ∙ there in
    (member_ordered (encode_utf8_all n) ms d order found, sent_fits (encode_utf8_all n) xs ms d fits found)
form_fits n xs v order fits s is d there = absurd (true≢false (sym fits))

statements_stay : (xs : List Part) (s : Option Data) → is_some s ≡ true → FitsForm (fits_form (object_of xs)) s
    → AllStay xs (if_sent (by_names (children xs)) (children xs) s)
    → over (lay_form (object_of xs)) (Some (named (children xs))) s ≡ s
statements_stay xs None there fits all = absurd (true≢false (sym there))
statements_stay xs (Some d) there fits all =
    let it = fits d refl in ap (λ (z : Data). Some z) (object_stays xs d it.0 it.1 all)

entries_form_stays : (xs : List Part) (s : Option Data) → AreNamed xs → is_some s ≡ true
    → FitsForm (fits_form (entries_of xs)) s
    → AllStay xs (if_sent (λ d. by_entries (children xs) (items_in d)) (children xs) s)
    → over (lay_form (entries_of xs)) (Some (in_order (map annotation_value (children xs)))) s ≡ s
entries_form_stays xs None names there fits all = absurd (true≢false (sym there))
entries_form_stays xs (Some d) names there fits all =
    ap (λ (z : Data). Some z) (annotations_stay xs d names (fits d refl).1 all)

-- ---- kinds

abbrev KindStays : Payload → List Part → Data → Type 0
KindStays x xs v = over (lay_form (form_of x xs)) (value (form_of x xs)) (Some v) ≡ Some v

kind_stays : (x : Payload) (xs : List Part) (v : Data) → IsOrdered v → NamedIn x xs → fits_form (form_of x xs) v ≡ true
    → has_attributes (form_of x []) v ≡ true → AllStay xs (sent x (children xs) v) → KindStays x xs v
unfolding lib.Utf8.encode
kind_stays (p.Property t a i) xs v order names fits has all = refl
kind_stays (p.MultiLanguageProperty a i) xs v order names fits has all = refl
kind_stays (p.Range t a b) xs v order names fits has all =
    ap (λ (z : Data). Some z) (object_stays (parts_in (form_of (p.Range t a b) xs)) v order fits
    (attribute_stays _ _ (and_left _ _ has), (attribute_stays _ _ (and_left _ _ (and_right _ _ has)), tt)))
kind_stays (p.File t a) xs v order names fits has all =
    ap (λ (z : Data). Some z) (object_stays (parts_in (form_of (p.File t a) xs)) v order fits
    (attribute_stays _ _ (and_left _ _ has), (attribute_stays _ _ (and_left _ _ (and_right _ _ has)), tt)))
kind_stays (p.Blob t a) xs v order names fits has all =
    ap (λ (z : Data). Some z) (object_stays (parts_in (form_of (p.Blob t a) xs)) v order fits
    (attribute_stays _ _ (and_left _ _ has), (attribute_stays _ _ (and_left _ _ (and_right _ _ has)), tt)))
kind_stays (p.ReferenceElement a) xs v order names fits has all = refl
kind_stays (p.RelationshipElement a b) xs v order names fits has all =
    ap (λ (z : Data). Some z) (object_stays (parts_in (form_of (p.RelationshipElement a b) xs)) v order fits
    (attribute_stays _ _ (and_left _ _ has), (attribute_stays _ _ (and_left _ _ (and_right _ _ has)), tt)))
kind_stays (p.AnnotatedRelationshipElement a b) xs v order names fits has all =
    let ys = parts_in (form_of (p.AnnotatedRelationshipElement a b) xs) in
    let rest = and_right _ _ has in
    ap (λ (z : Data). Some z) (object_stays ys v order fits (
      entries_form_stays xs _ names (and_left _ _ has) (form_fits (codes "annotations") ys v order fits _ refl) all,
      (attribute_stays _ _ (and_left _ _ rest), (attribute_stays _ _ (and_left _ _ (and_right _ _ rest)), tt)),
    ))
kind_stays (p.Entity t g ids) xs v order names fits has all =
    let ys = parts_in (form_of (p.Entity t g ids) xs) in
    let rest = and_right _ _ has in
    let last = and_right _ _ rest in
    ap (λ (z : Data). Some z) (object_stays ys v order fits (
      attribute_stays _ _ (and_left _ _ has),
      (
        attribute_stays _ _ (and_left _ _ rest),
        (
          attribute_stays _ _ (and_left _ _ last),
          (
            statements_stay xs _ (and_left _ _ (and_right _ _ last))
                (form_fits (codes "statements") ys v order fits _ refl) all,
            tt,
          ),
        ),
      ),
    ))
kind_stays (p.BasicEventElement o d s t b l m n) xs v order names fits has all =
    ap (λ (z : Data). Some z) (object_stays (parts_in (form_of (p.BasicEventElement o d s t b l m n) xs)) v order fits
    (attribute_stays _ _ (and_left _ _ has), tt))
kind_stays p.Capability xs v order names fits has all = absurd (true≢false (sym fits))
kind_stays p.Operation xs v order names fits has all = absurd (true≢false (sym fits))
kind_stays p.SubmodelElementCollection xs v order names fits has all =
    ap (λ (z : Data). Some z) (object_stays xs v order fits all)
kind_stays (p.SubmodelElementList o s t a) xs v order names fits has all =
    ap (λ (z : Data). Some z) (list_stays xs v fits all)

-- ---- elements

full_at : (r : Role) (c : Common) (x : Payload) (ks : List Element)
    → full (made r c x ks) ≡ full_over (record { common = c; payload = x; role = r; kids = map full ks })
unfolding full
full_at r c x ks = fold-roll-Element Full full_over (record { common = c; payload = x; role = r; kids = ks })

parts_are : (ks : List Element) → Each (λ k. (full k).part ≡ part_of k) ks
    → map (λ (k : Full). k.part) (map full ks) ≡ map part_of ks
parts_are [] each = refl
parts_are (k ∷ ks) each = ap₂ (λ x xs. x ∷ xs) each.0 (parts_are ks each.1)

pub part_is : (e : Element) → (full e).part ≡ part_of e
part_is = by_children (λ e. (full e).part ≡ part_of e) (λ r c x ks each.
    ap (λ (k : Full). k.part) (full_at r c x ks)
    ∙ ap (λ xs. child_part c.id_short (form_of x xs)) (parts_are ks each)
    ∙ sym (part_at r c x ks))

all_parts_are : (ks : List Element) → map (λ (k : Full). k.part) (map full ks) ≡ map part_of ks
all_parts_are [] = refl
all_parts_are (k ∷ ks) = ap₂ (λ x xs. x ∷ xs) (part_is k) (all_parts_are ks)

pub has_all_is : (e : Element) (v : Data) → (full e).has_all v
    ≡ (has_attributes (form_of (out-Element e).payload []) v
    && each_has_all (map full (kids_of e)) (sent (out-Element e).payload (children (map part_of (kids_of e))) v))
has_all_is e v =
    let x = out-Element e in
    ap (λ z. (full z).has_all v) (sym (made_out e))
    ∙ ap (λ (k : Full). k.has_all v) (full_at x.role x.common x.payload x.kids)
    ∙ ap (λ xs.
    has_attributes (form_of x.payload []) v && each_has_all (map full x.kids) (sent x.payload (children xs) v))
    (all_parts_are x.kids)

StaysAll : Element → Type 0
StaysAll e =
    (v : Data) → NamesDiffer e → IsOrdered v → HasShape e v → HasAllMembers e v
    → Stays (part_of e) (Some v)

unsent_stays : (f : Data → Data → Data) (o : Option Data) → is_none o ≡ true → over f o None ≡ None
unsent_stays f None none = refl
unsent_stays f (Some w) none = absurd (true≢false (sym none))

kids_stay : (ks : List Element) (ss : List (Option Data)) → Each StaysAll ks
    → ((i : ℕ) (k : Element) → slice_get ks i ≡ Some k → NamesDiffer k) → Each IfOrdered ss → AreShaped ks ss
    → each_has_all (map full ks) ss ≡ true
    → AllStay (map part_of ks) ss
unfolding StaysAll
kids_stay [] ss each names order shaped has = tt
kids_stay (k ∷ ks) [] each names order shaped has = tt
kids_stay (k ∷ ks) (s ∷ ss) each names order shaped has =
    let others = kids_stay ks ss each.1 (λ i m. names (suc i) m) order.1 shaped.1 (and_right _ _ has) in
    (by_sent s order.0 shaped.0 (and_left _ _ has), others)
  where
    by_sent : (s : Option Data) → IfOrdered s → IfShaped k s → one_has_all (full k) s ≡ true → Stays (part_of k) s
    by_sent None order shaped has =
        unsent_stays (part_of k).lay (part_of k).child.form
        (sym (ap (λ (x : Part). is_none x.child.form) (part_is k)) ∙ has)
    by_sent (Some d) order shaped has = each.0 d (names zero k refl) order shaped has

level_stays : (e : Element) → Each StaysAll (kids_of e) → StaysAll e
unfolding StaysAll element_in
level_stays e each v names order fits has =
    let x = (out-Element e).payload in
    let xs = map part_of (kids_of e) in
    let shape = shape_out e v fits in
    let both = sym (has_all_is e v) ∙ has in
    let kids = kids_stay (kids_of e) (sent x (children xs) v) each (names_below e names) (sent_ordered x xs v order)
    shape.kids (and_right _ _ both) in
    ap (λ (y : Part). over y.lay y.child.form (Some v)) (part_out e)
    ∙ kind_stays x xs v order (named_in x (kids_of e) (names [] e refl)) shape.own (and_left _ _ both) kids

stays_all : (e : Element) → StaysAll e
unfolding StaysAll
stays_all =
    by_children StaysAll (λ r c x ks each.
    level_stays (made r c x ks) (subst (Each StaysAll) (sym (kids_made r c x ks)) each))

pub whole_value_is_laid : WholeValueIsLaid
unfolding StaysAll
whole_value_is_laid e w v order old rises shape has =
    let laid : Some (lay e w v) ≡ Some v =
    sym (ap (λ (o : Option Data). over (part_of e).lay o (Some v)) old) ∙ stays_all e v order.names rises shape has in
    cc
