-- A value fits the form of an element, each part with its own form, exactly where its own part fits and what is sent
-- for each child fits that child.
use Rattle.std.proofs.Common.{◌≡◌, ℕ, Bool, true, false, ◌&&◌, List, [], ◌∷◌, map, codes, Option, Some, None, is_some}
use Rattle.std.proofs.Common.{option_and_then, refl, sym, ap, ◌∙◌, subst, true≢false}
use Rattle.std.specs.Prelude.{bytes_eq, if◌then◌else◌}
use Rattle.std.specs.Str.{encode_utf8_all}
use Rattle.std.proofs.lemmas.Bool.{and_from}
use Rattle.std.proofs.lemmas.Option.{none-some}
use Rattle.serde_json.specs.Data.{Data, array, object, Items, no_items, item, Members, no_members, member}
use Rattle.serde_json.specs.Find.{get, get_member}
use Rattle.aas_lemmas.proofs.Truth.{and_left, and_right}
use Rattle.aas_json_spelling.specs.Values.{IsOrdered}
use Rattle.aas_model.specs.declared.payload.Payload.{Payload}
use Rattle.aas_model.specs.declared.payload.Payload.TheVariants as p
use Rattle.aas_value_update.specs.Forms.{form_of}
use Rattle.aas_value.specs.Parts.{Part, object_of, list_of, entries_of, is_called, by_name, children, entry}
use Rattle.aas_value.specs.Parts.{members_fit, items_fit, fits_if, entries_fit, fits_form}
use Rattle.aas_value_update.specs.Shape.{under_name, by_names, next_item, in_turn, by_entries, items_in, nothing_sent}
use Rattle.aas_value_update.specs.Shape.{if_sent, sent}
use Rattle.aas_value_update.proofs.Canonical.{order_rises}
use Rattle.aas_value_update.proofs.Laid.{sent_fits, fits_named, fits_first}
use Rattle.aas_value_update.proofs.Members.{Rises, absent, same_name, name_itself, get_here, get_past}
use Rattle.aas_value_update.proofs.Named.{IsNew, Apart, not_called, called_itself}
use Rattle.aas_value_update.proofs.Own.{ApartIn}
use Rattle.aas_value_update.proofs.Pairs.{Pairs}
use Rattle.aas_value_update.proofs.WholeOwn.{parts_in, member_ordered}

-- a part for which anything may be sent
abbrev pub opened : Part → Part
opened x = record x { fits = λ d. true }

-- what is sent for each part fits it
abbrev pub AreFitting : List Part → List (Option Data) → Type 0
AreFitting [] ss = Unit {0}
AreFitting (x ∷ xs) [] = Unit {0}
AreFitting (x ∷ xs) (s ∷ ss) = (fits_if x.fits s ≡ true) × AreFitting xs ss

nothing_fits : (xs : List Part) → AreFitting xs (nothing_sent (children xs))
nothing_fits [] = tt
nothing_fits (x ∷ xs) = (refl, nothing_fits xs)

-- ---- members

-- what fits x under the name n fits y
abbrev Allows : List ℕ → Data → Part → Part → Type 0
Allows n d x y =
    (is_called n x.child ≡ is_called n y.child) × (is_called n x.child ≡ true → x.fits d ≡ true → y.fits d ≡ true)

by_name_allows : (n : List ℕ) (d : Data) (xs ys : List Part)
    → Pairs (Allows n d) xs ys → (t s : Data → Bool) → (t d ≡ true → s d ≡ true)
    → by_name n (λ x. x.fits) xs t d ≡ true → by_name n (λ x. x.fits) ys s d ≡ true
by_name_allows n d [] [] pairs t s allows fits = allows fits
by_name_allows n d [] (y ∷ ys) pairs t s allows fits = absurd pairs
by_name_allows n d (x ∷ xs) [] pairs t s allows fits = absurd pairs
by_name_allows n d (x ∷ xs) (y ∷ ys) pairs t s allows fits =
    by_name_allows n d xs ys pairs.1 (if is_called n x.child then x.fits else t)
    (if is_called n y.child then y.fits else s)
    (by_test (is_called n x.child) refl (is_called n y.child) pairs.0.0) fits
  where
    by_test : (b : Bool) → is_called n x.child ≡ b → (c : Bool)
        → is_called n x.child ≡ c → (if b then x.fits else t) d ≡ true
        → (if c then y.fits else s) d ≡ true
    by_test true is true same passes = pairs.0.1 is passes
    by_test true is false same passes = absurd (true≢false (sym is ∙ same))
    by_test false is true same passes = absurd (true≢false (sym same ∙ is))
    by_test false is false same passes = allows passes

-- whatever stands under a name
members_allow : (xs ys : List Part)
    → ((n : List ℕ) (d : Data) → Pairs (Allows n d) xs ys) → (ms : Members) → members_fit xs ms ≡ true
    → members_fit ys ms ≡ true
members_allow xs ys pairs no_members fits = refl
members_allow xs ys pairs (member n d ms) fits =
    and_from _ _ (by_name_allows n d xs ys (pairs n d) (λ e. false) (λ e. false) (λ e. e) (and_left _ _ fits))
    (members_allow xs ys pairs ms (and_right _ _ fits))

each_fits : (xs : List Part) (ms : Members)
    → Rises ms → ((n : List ℕ) (d : Data) → get_member n ms ≡ Some d → fits_named n xs d ≡ true)
    → members_fit xs ms ≡ true
each_fits xs no_members rises each = refl
each_fits xs (member k d ms) rises each =
    and_from _ _ (each k d (get_here k k d ms (name_itself k)))
    (each_fits xs ms rises.1 (λ n e there. by_test n e there (bytes_eq n k) refl))
  where
    by_test : (n : List ℕ) (e : Data) → get_member n ms ≡ Some e → (b : Bool)
        → bytes_eq n k ≡ b → fits_named n xs e ≡ true
    by_test n e there true is =
        absurd (none-some e (sym (ap (λ m. get_member m ms) (same_name n k is) ∙ absent k ms rises.0) ∙ there))
    by_test n e there false is = each n e (get_past n k d ms is ∙ there)

-- what stands under it, where names rise
sent_allow : (xs ys : List Part) (ms : Members)
    → Rises ms → ((n : List ℕ) (d : Data) → get_member n ms ≡ Some d → Pairs (Allows n d) xs ys)
    → members_fit xs ms ≡ true → members_fit ys ms ≡ true
sent_allow xs ys ms rises pairs fits = each_fits ys ms rises (λ n d there.
    by_name_allows n d xs ys (pairs n d there) (λ e. false) (λ e. false) (λ e. e) (sent_fits n xs ms d fits there))

opened_allow : (n : List ℕ) (d : Data) (xs : List Part) → Pairs (Allows n d) xs (map opened xs)
opened_allow n d [] = tt
opened_allow n d (x ∷ xs) = ((refl, λ is fits. refl), opened_allow n d xs)

-- ---- an object of parts

under_called : (n : List ℕ) (ms : Members) (o : Option (List ℕ)) (f : Option Data)
    → is_called n (record { name = o; form = f }) ≡ true
    → under_name (object ms) (record { name = o; form = f }) ≡ get_member n ms
under_called n ms None f is = absurd (true≢false (sym is))
under_called n ms (Some m) None is = absurd (true≢false (sym (and_right _ _ is)))
under_called n ms (Some m) (Some d) is =
    ap (λ k. get_member k ms) (sym (same_name n (encode_utf8_all m) (and_left _ _ is)))

sent_pairs : (n : List ℕ) (d : Data) (ms : Members) → get_member n ms ≡ Some d → (xs : List Part)
    → AreFitting xs (by_names (children xs) (object ms)) → Pairs (Allows n d) (map opened xs) xs
sent_pairs n d ms there [] fits = tt
sent_pairs n d ms there (x ∷ xs) fits = (
  (refl, λ is passes. sym (ap (fits_if x.fits) (under_called n ms x.child.name x.child.form is ∙ there)) ∙ fits.0),
  sent_pairs n d ms there xs fits.1,
)

new_name : {X : Type 0} (n : List ℕ) (f : Part → X) (xs : List Part) → IsNew n (children xs) → (z : X)
    → by_name (encode_utf8_all n) f xs z ≡ z
new_name n f [] new z = refl
new_name n f (x ∷ xs) new z =
    new_name n f xs new.1 (if is_called (encode_utf8_all n) x.child then f x else z)
    ∙ ap (λ b. if b then f x else z) (not_called n x.child.name x.child.form new.0)

-- of parts that differ in names the last of a name is the only one
own_fits : (n : List ℕ) (x : Part) (xs : List Part) (t : Data → Bool) (d : Data)
    → x.child.name ≡ Some n → IsNew n (children xs)
    → is_some x.child.form ≡ true
    → by_name (encode_utf8_all n) (λ y. y.fits) xs (if is_called (encode_utf8_all n) x.child then x.fits else t) d
    ≡ true
    → x.fits d ≡ true
own_fits n x xs t d name new there fits =
    sym (ap (λ (f : Data → Bool). f d)
    (new_name n (λ y. y.fits) xs new (if is_called (encode_utf8_all n) x.child then x.fits else t))
    ∙ ap (λ b. (if b then x.fits else t) d) (called_itself n x.child.name x.child.form name there))
    ∙ fits

names_fit : (ms : Members) (xs : List Part) → Apart (children xs) → (t : List ℕ → Data → Bool)
    → ((n : List ℕ) (d : Data) → get_member n ms ≡ Some d → by_name n (λ x. x.fits) xs (t n) d ≡ true)
    → AreFitting xs (by_names (children xs) (object ms))
names_fit ms [] apart t fits = tt
names_fit ms (x ∷ xs) apart t fits =
    let n = apart.0.0 in (
      by_form n apart.0.1 apart.0.2 (is_some x.child.form) refl,
      names_fit ms xs apart.1 (λ m. if is_called m x.child then x.fits else t m) fits,
    )
  where
    by_found : (n : List ℕ) → x.child.name ≡ Some n → IsNew n (children xs) → is_some x.child.form ≡ true
        → (s : Option Data) → get_member (encode_utf8_all n) ms ≡ s → fits_if x.fits s ≡ true
    by_found n name new there None is = refl
    by_found n name new there (Some d) is =
        own_fits n x xs (t (encode_utf8_all n)) d name new there (fits (encode_utf8_all n) d is)

    by_form : (n : List ℕ) → x.child.name ≡ Some n → IsNew n (children xs) → (b : Bool) → is_some x.child.form ≡ b
        → fits_if x.fits (if b then option_and_then (λ m. get (encode_utf8_all m) (object ms)) x.child.name else None)
        ≡ true
    by_form n name new false there = refl
    by_form n name new true there =
        ap (λ o. fits_if x.fits (option_and_then (λ m. get (encode_utf8_all m) (object ms)) o)) name
        ∙ by_found n name new there (get_member (encode_utf8_all n) ms) refl

-- ---- forms

object_from : (xs : List Part) (v : Data) → IsOrdered v → fits_form (object_of (map opened xs)) v ≡ true
    → AreFitting xs (by_names (children xs) v) → fits_form (object_of xs) v ≡ true
object_from xs (object ms) order own fits =
    sent_allow (map opened xs) xs ms (order_rises ms order) (λ n d there. sent_pairs n d ms there xs fits) own
object_from xs v order own fits = absurd (true≢false (sym own))

object_to : (xs : List Part) (v : Data) → Apart (children xs) → fits_form (object_of xs) v ≡ true
    → (fits_form (object_of (map opened xs)) v ≡ true) × AreFitting xs (by_names (children xs) v)
object_to xs (object ms) apart fits = (
  members_allow xs (map opened xs) (λ n d. opened_allow n d xs) ms fits,
  names_fit ms xs apart (λ n d. false) (λ n d there. sent_fits n xs ms d fits there),
)
object_to xs v apart fits = absurd (true≢false (sym fits))

items_from : (xs : List Part) (ds : Items)
    → items_fit (map opened xs) ds ≡ true → AreFitting xs (in_turn (children xs) ds)
    → items_fit xs ds ≡ true
items_from [] ds own fits = own
items_from (x ∷ xs) ds own fits = by_form (is_some x.child.form) ds own fits (λ es. items_from xs es)
  where
    by_form : (b : Bool) (ds : Items)
        → fits_first b (λ d. true) (items_fit (map opened xs)) ds ≡ true
        → AreFitting (x ∷ xs) (if b then next_item (in_turn (children xs)) ds else None ∷ in_turn (children xs) ds)
        → ((es : Items)
        → items_fit (map opened xs) es ≡ true → AreFitting xs (in_turn (children xs) es) → items_fit xs es ≡ true)
        → fits_first b x.fits (items_fit xs) ds ≡ true
    by_form true no_items own fits more = absurd (true≢false (sym own))
    by_form true (item d ds) own fits more = and_from _ _ fits.0 (more ds own fits.1)
    by_form false ds own fits more = more ds own fits.1

items_to : (xs : List Part) (ds : Items) → items_fit xs ds ≡ true
    → (items_fit (map opened xs) ds ≡ true) × AreFitting xs (in_turn (children xs) ds)
items_to [] ds fits = (fits, tt)
items_to (x ∷ xs) ds fits = by_form (is_some x.child.form) ds fits (λ es. items_to xs es)
  where
    by_form : (b : Bool) (ds : Items) → fits_first b x.fits (items_fit xs) ds ≡ true
        → ((es : Items)
        → items_fit xs es ≡ true → (items_fit (map opened xs) es ≡ true) × AreFitting xs (in_turn (children xs) es))
        → (fits_first b (λ d. true) (items_fit (map opened xs)) ds ≡ true)
        × AreFitting (x ∷ xs) (if b then next_item (in_turn (children xs)) ds else None ∷ in_turn (children xs) ds)
    by_form true no_items fits more = absurd (true≢false (sym fits))
    by_form true (item d ds) fits more =
        let rest = more ds (and_right _ _ fits) in
        (rest.0, (and_left _ _ fits, rest.1))
    by_form false ds fits more = let rest = more ds fits in (rest.0, (refl, rest.1))

list_from : (xs : List Part) (v : Data)
    → fits_form (list_of (map opened xs)) v ≡ true → AreFitting xs (in_turn (children xs) (items_in v))
    → fits_form (list_of xs) v ≡ true
list_from xs (array ds) own fits = items_from xs ds own fits
list_from xs v own fits = absurd (true≢false (sym own))

list_to : (xs : List Part) (v : Data) → fits_form (list_of xs) v ≡ true
    → (fits_form (list_of (map opened xs)) v ≡ true) × AreFitting xs (in_turn (children xs) (items_in v))
list_to xs (array ds) fits = items_to xs ds fits
list_to xs v fits = absurd (true≢false (sym fits))

entries_from : (xs : List Part) (ds : Items)
    → entries_fit (map opened xs) ds ≡ true → AreFitting xs (by_entries (children xs) ds)
    → entries_fit xs ds ≡ true
entries_from [] ds own fits = own
entries_from (x ∷ xs) ds own fits =
    and_from _ _ fits.0 (entries_from xs (entry x.child ds).1 (and_right _ _ own) fits.1)

entries_to : (xs : List Part) (ds : Items) → entries_fit xs ds ≡ true
    → (entries_fit (map opened xs) ds ≡ true) × AreFitting xs (by_entries (children xs) ds)
entries_to [] ds fits = (fits, tt)
entries_to (x ∷ xs) ds fits =
    let rest = entries_to xs (entry x.child ds).1 (and_right _ _ fits) in
    (and_from _ _ (any_fits (entry x.child ds).0) rest.0, (and_left _ _ fits, rest.1))
  where
    any_fits : (o : Option Data) → fits_if (λ d. true) o ≡ true
    any_fits None = refl
    any_fits (Some d) = refl

annotations_from : (xs : List Part) (v : Data) → fits_form (entries_of (map opened xs)) v ≡ true
    → AreFitting xs (by_entries (children xs) (items_in v)) → fits_form (entries_of xs) v ≡ true
annotations_from xs (array ds) own fits = entries_from xs ds own fits
annotations_from xs v own fits = absurd (true≢false (sym own))

annotations_to : (xs : List Part) (v : Data) → fits_form (entries_of xs) v ≡ true
    → (fits_form (entries_of (map opened xs)) v ≡ true) × AreFitting xs (by_entries (children xs) (items_in v))
annotations_to xs (array ds) fits = entries_to xs ds fits
annotations_to xs v fits = absurd (true≢false (sym fits))

-- ---- kinds

-- what stands under a form's name
under_named : (m n : List ℕ) (ms : Members) (d : Data)
    → bytes_eq n m && true ≡ true → get_member n ms ≡ Some d → get_member m ms ≡ Some d
under_named m n ms d is there = ap (λ k. get_member k ms) (sym (same_name n m (and_left _ _ is))) ∙ there

-- where an element's own part fits, and so does what is sent for its children, the whole fits
pub level_from : (x : Payload) (xs : List Part) (v : Data)
    → IsOrdered v → fits_form (form_of x (map opened xs)) v ≡ true
    → AreFitting xs (sent x (children xs) v)
    → fits_form (form_of x xs) v ≡ true
unfolding lib.Utf8.encode
level_from (p.AnnotatedRelationshipElement a b) xs (object ms) order own fits =
    let f = form_of (p.AnnotatedRelationshipElement a b) in
    sent_allow (parts_in (f (map opened xs))) (parts_in (f xs)) ms (order_rises ms order)
    (λ n d there. ((refl, annotations n d there), ((refl, λ is e. e), ((refl, λ is e. e), tt)))) own
  where
    annotations : (n : List ℕ) (d : Data) → get_member n ms ≡ Some d → bytes_eq n (codes "annotations") && true ≡ true
        → fits_form (entries_of (map opened xs)) d ≡ true → fits_form (entries_of xs) d ≡ true
    annotations n d there is passes =
        let here = under_named (codes "annotations") n ms d is there in
        annotations_from xs d passes
        (subst (λ s. AreFitting xs (if_sent (λ e. by_entries (children xs) (items_in e)) (children xs) s)) here fits)
level_from (p.AnnotatedRelationshipElement a b) xs v order own fits = absurd (true≢false (sym own))
level_from (p.Entity t g ids) xs (object ms) order own fits =
    let f = form_of (p.Entity t g ids) in
    sent_allow (parts_in (f (map opened xs))) (parts_in (f xs)) ms (order_rises ms order)
    (λ n d there. ((refl, λ is e. e), ((refl, λ is e. e), ((refl, λ is e. e), ((refl, statements n d there), tt))))) own
  where
    statements : (n : List ℕ) (d : Data) → get_member n ms ≡ Some d → bytes_eq n (codes "statements") && true ≡ true
        → fits_form (object_of (map opened xs)) d ≡ true → fits_form (object_of xs) d ≡ true
    statements n d there is passes =
        let here = under_named (codes "statements") n ms d is there in
        object_from xs d (member_ordered (codes "statements") ms d order here) passes
        (subst (λ s. AreFitting xs (if_sent (by_names (children xs)) (children xs) s)) here fits)
level_from (p.Entity t g ids) xs v order own fits = absurd (true≢false (sym own))
level_from p.SubmodelElementCollection xs v order own fits = object_from xs v order own fits
level_from (p.SubmodelElementList o s t a) xs v order own fits = list_from xs v own fits
level_from p.Capability xs v order own fits = own
level_from _ xs v order own fits = own

-- and back, where names differ
pub level_to : (x : Payload) (xs : List Part) (v : Data) → ApartIn x (children xs) → fits_form (form_of x xs) v ≡ true
    → (fits_form (form_of x (map opened xs)) v ≡ true) × AreFitting xs (sent x (children xs) v)
unfolding lib.Utf8.encode
level_to (p.AnnotatedRelationshipElement a b) xs (object ms) apart fits =
    let f = form_of (p.AnnotatedRelationshipElement a b) in (
      members_allow (parts_in (f xs)) (parts_in (f (map opened xs)))
          (λ n d. ((refl, λ is e. (annotations_to xs d e).0), ((refl, λ is e. e), ((refl, λ is e. e), tt)))) ms fits,
      by_sent (get_member (codes "annotations") ms) (λ d there.
          sent_fits (codes "annotations") (parts_in (f xs)) ms d fits there),
    )
  where
    by_sent : (s : Option Data) → ((d : Data) → s ≡ Some d → fits_form (entries_of xs) d ≡ true)
        → AreFitting xs (if_sent (λ e. by_entries (children xs) (items_in e)) (children xs) s)
    by_sent None it = nothing_fits xs
    by_sent (Some d) it = (annotations_to xs d (it d refl)).1
level_to (p.AnnotatedRelationshipElement a b) xs v apart fits = absurd (true≢false (sym fits))
level_to (p.Entity t g ids) xs (object ms) apart fits =
    let f = form_of (p.Entity t g ids) in (
      members_allow (parts_in (f xs)) (parts_in (f (map opened xs)))
          (λ n d. (
            (refl, λ is e. e),
            ((refl, λ is e. e), ((refl, λ is e. e), ((refl, λ is e. (object_to xs d apart e).0), tt))),
          ))
          ms fits,
      by_sent (get_member (codes "statements") ms) (λ d there.
          sent_fits (codes "statements") (parts_in (f xs)) ms d fits there),
    )
  where
    by_sent : (s : Option Data) → ((d : Data) → s ≡ Some d → fits_form (object_of xs) d ≡ true)
        → AreFitting xs (if_sent (by_names (children xs)) (children xs) s)
    by_sent None it = nothing_fits xs
    by_sent (Some d) it = (object_to xs d apart (it d refl)).1
level_to (p.Entity t g ids) xs v apart fits = absurd (true≢false (sym fits))
level_to p.SubmodelElementCollection xs v apart fits = object_to xs v apart fits
level_to (p.SubmodelElementList o s t a) xs v apart fits = list_to xs v fits
level_to p.Capability xs v apart fits = (fits, nothing_fits xs)
level_to _ xs v apart fits = (fits, nothing_fits xs)
