-- A kind's own members stay whole in an update: each is as it was, or is what was sent for it, which fits.
use Rattle.std.proofs.Common.{◌≡◌, ◌⊎◌, inl, inr, ℕ, Bool, true, false, List, [], ◌∷◌, map, codes, Option, Some, None}
use Rattle.std.proofs.Common.{is_some, Ordering, Less, Equal, Greater, refl, sym, ap, ap₂, ◌∙◌, subst, true≢false}
use Rattle.std.specs.List.{list_all}
use Rattle.std.specs.Ordering.{nat_cmp, match_ordering}
use Rattle.std.specs.Cmp.Lexicographic.{slice_cmp}
use Rattle.std.proofs.lemmas.Bool.{and_from}
use Rattle.serde_json.specs.Data.{Data, null, boolean, number, string, array, object, no_items, Members}
use Rattle.serde_json.specs.Data.{no_members, member}
use Rattle.serde_json.specs.Find.{get_member}
use Rattle.aas_lemmas.proofs.Truth.{and_left, and_right}
use Rattle.aas_json_spelling.specs.Values.{IsOrdered, AreOrdered, HasOrder}
use Rattle.aas_json_table.specs.Spelled.{onto}
use Rattle.aas_json_table.specs.Table.{reference, specific_asset_id}
use Rattle.aas_json_table.specs.TooDeep.{limits}
use Rattle.aas_json_mapping.specs.Parts.{spell_specific_asset_id}
use Rattle.aas_json_mapping.specs.Whole.{whole_payload, whole_specific_asset_id}
use Rattle.aas_json_mapping.proofs.Facts.{reference_facts}
use Rattle.aas_json_mapping.proofs.Parts.{specific_asset_id_facts}
use Rattle.aas_model_names.specs.declared.enumerations.EntityType.{EntityType}
use Rattle.aas_model.specs.declared.parts.SpecificAssetId.{SpecificAssetId}
use Rattle.aas_model.specs.declared.payload.Payload.{Payload}
use Rattle.aas_model.specs.declared.payload.Payload.TheVariants as p
use Rattle.aas_model.specs.declared.reference.Reference.{Reference}
use Rattle.aas_reference.specs.Whole.{is_whole, whole_if_there, whole_and_there}
use Rattle.aas_constraint_laws.specs.Values.{without_values}
use Rattle.aas_value.specs.Children.{put_children, named}
use Rattle.aas_value.specs.Attributes.{array_of, text_or_null, reference_or_null, entity_type_or_null}
use Rattle.aas_value.specs.Json.{is_string, is_reference, is_reference_or_null, is_specific_asset_id, is_entity_type}
use Rattle.aas_value.specs.Json.{is_array_of, all_items}
use Rattle.aas_value.specs.Parts.{Part, Form, object_of, by_name, children, later, over, laid, value, lay_form}
use Rattle.aas_value.specs.Parts.{members_fit, fits_form}
use Rattle.aas_value_update.specs.Forms.{form_of}
use Rattle.aas_value_update.proofs.Canonical.{part_fits, part_shallow, says_itself}
use Rattle.aas_value_update.proofs.Laid.{form, get_children, get_laid, sent_fits}
use Rattle.aas_value_update.proofs.Slots.{same_text_or_null, same_entity_type, same_reference_or_null, same_array}

-- ---- one member

pub member_ordered : (n : List ℕ) (ms : Members) (d : Data) → HasOrder ms → get_member n ms ≡ Some d → IsOrdered d
member_ordered n no_members d order e = cc
member_ordered n (member k v ms) d order e = by_order (slice_cmp nat_cmp n k) e (member_ordered n ms d order.2)
  where
    by_order : (o : Ordering) → match_ordering o (get_member n ms) (Some v) (get_member n ms) ≡ Some d
        → (get_member n ms ≡ Some d → IsOrdered d) → IsOrdered d
    by_order Less e more = more e
    by_order Equal e more = let same : v ≡ d = cc in subst IsOrdered same order.1
    by_order Greater e more = more e

-- it is the old one, or was sent
abbrev Stays : (Data → Bool) → Data → Data → Type 0
Stays test old new = (new ≡ old) ⊎ (IsOrdered new × (test new ≡ true))

module _ (n : List ℕ) (xs ys : List Part) (old new : Data) (plain : by_name n (λ x. x.lay) xs later ≡ later)
    (was : by_name n form xs None ≡ Some old) (is : by_name n form ys None ≡ Some new) where
  in_object : (ms : Members) → HasOrder ms → members_fit xs ms ≡ true
      → put_children (children ys) no_members ≡ laid xs (put_children (children xs) no_members) ms
      → Stays (by_name n (λ x. x.fits) xs (λ e. false)) old new
  in_object ms order fits members = by_sent (get_member n ms) refl
    where
      before : get_member n (put_children (children xs) no_members) ≡ Some old
      before = get_children n xs no_members ∙ was

      after : Some new
          ≡ over (by_name n (λ x. x.lay) xs later)
          (get_member n (put_children (children xs) no_members)) (get_member n ms)
      after =
          sym (get_children n ys no_members ∙ is) ∙ ap (get_member n) members
          ∙ get_laid n xs (put_children (children xs) no_members) ms

      by_sent : (s : Option Data) → get_member n ms ≡ s → Stays (by_name n (λ x. x.fits) xs (λ e. false)) old new
      by_sent None e =
          let same : Some new ≡ Some old = after ∙ ap₂ (over (by_name n (λ x. x.lay) xs later)) before e in inl (cc)
      by_sent (Some d) e =
          let sent : Some new ≡ Some d = after ∙ ap₂ (over (by_name n (λ x. x.lay) xs later)) before e
          ∙ ap (λ (f : Data → Data → Data). Some (f old d)) plain in
          let same : d ≡ new = cc in
          inr (
            subst IsOrdered same (member_ordered n ms d order e),
            subst (λ z. by_name n (λ x. x.fits) xs (λ e. false) z ≡ true) same (sent_fits n xs ms d fits e),
          )

  own_member : (v : Data) → IsOrdered v → fits_form (object_of xs) v ≡ true
      → Some (named (children ys)) ≡ over (lay_form (object_of xs)) (Some (named (children xs))) (Some v)
      → Stays (by_name n (λ x. x.fits) xs (λ e. false)) old new
  own_member (object ms) order fits e = in_object ms order fits (cc)
  own_member null order fits e = absurd (true≢false (sym fits))
  own_member (boolean b) order fits e = absurd (true≢false (sym fits))
  own_member (number m) order fits e = absurd (true≢false (sym fits))
  own_member (string s) order fits e = absurd (true≢false (sym fits))
  own_member (array ds) order fits e = absurd (true≢false (sym fits))

-- ---- attributes

text_stays : (a b : Option (List ℕ))
    → Stays is_string (text_or_null a) (text_or_null b) → is_some a ≡ true → is_some b ≡ true
text_stays a b (inl same) there = ap (λ (o : Option (List ℕ)). is_some o) (same_text_or_null b a same) ∙ there
text_stays a (Some s) (inr sent) there = refl
text_stays a None (inr sent) there = absurd (true≢false (sym sent.1))

type_stays : (a b : Option EntityType)
    → Stays is_entity_type (entity_type_or_null a) (entity_type_or_null b) → is_some a ≡ true → is_some b ≡ true
type_stays a b (inl same) there = ap (λ (o : Option EntityType). is_some o) (same_entity_type b a same) ∙ there
type_stays a (Some t) (inr sent) there = refl
type_stays a None (inr sent) there = absurd (true≢false (sym sent.1))

-- what was sent as a part spells what is good, and so is whole
sent_reference : (r : Reference) → IsOrdered (reference_or_null (Some r))
    → is_reference (reference_or_null (Some r)) ≡ true → is_whole limits r ≡ true
sent_reference r order part = reference_facts.back limits r (record {
  again = says_itself reference _ part order;
  fits = part_fits reference _ part;
  low = part_shallow reference _ part;
  order = order;
})

sent_specific_id : (a : SpecificAssetId) → IsOrdered (spell_specific_asset_id a)
    → is_specific_asset_id (spell_specific_asset_id a) ≡ true → whole_specific_asset_id limits a ≡ true
sent_specific_id a order part = specific_asset_id_facts.back limits a (record {
  again = says_itself specific_asset_id (spell_specific_asset_id a) part order;
  fits = part_fits specific_asset_id (spell_specific_asset_id a) part;
  low = part_shallow specific_asset_id (spell_specific_asset_id a) part;
  order = order;
})

reference_stays : (a b : Option Reference) → Stays is_reference (reference_or_null a) (reference_or_null b)
    → whole_and_there limits a ≡ true → whole_and_there limits b ≡ true
reference_stays a b (inl same) whole = ap (whole_and_there limits) (same_reference_or_null b a same) ∙ whole
reference_stays a (Some r) (inr sent) whole = sent_reference r sent.0 sent.1
reference_stays a None (inr sent) whole = absurd (true≢false (sym sent.1))

reference_or_null_sent : (d : Data) → is_reference_or_null d ≡ true → (r : Reference)
    → d ≡ reference_or_null (Some r) → is_reference d ≡ true
reference_or_null_sent null fits r e = absurd (never r e)
  where
    never : (r : Reference) → null ≡ reference_or_null (Some r) → ⊥
    never r e = let none : None ≡ Some r = same_reference_or_null None (Some r) e in cc
reference_or_null_sent d fits r e = fits

reference_taken : (b : Option Reference) (d : Data)
    → IsOrdered d → is_reference_or_null d ≡ true → reference_or_null b ≡ d → whole_if_there limits b ≡ true
reference_taken None d order fits e = refl
reference_taken (Some r) d order fits e =
    sent_reference r (subst IsOrdered (sym e) order)
    (subst (λ z. is_reference z ≡ true) (sym e) (reference_or_null_sent d fits r (sym e)))

ids_sent : (ids : List SpecificAssetId) → AreOrdered (onto (map spell_specific_asset_id ids) no_items)
    → all_items is_specific_asset_id (onto (map spell_specific_asset_id ids) no_items) ≡ true
    → list_all (whole_specific_asset_id limits) ids ≡ true
ids_sent [] order fits = refl
ids_sent (a ∷ ids) order fits =
    and_from (whole_specific_asset_id limits a) (list_all (whole_specific_asset_id limits) ids)
    (sent_specific_id a order.0 (and_left _ _ fits)) (ids_sent ids order.1 (and_right _ _ fits))

ids_stay : (a b : List SpecificAssetId)
    → Stays (is_array_of is_specific_asset_id) (array_of spell_specific_asset_id a) (array_of spell_specific_asset_id b)
    → list_all (whole_specific_asset_id limits) a ≡ true → list_all (whole_specific_asset_id limits) b ≡ true
ids_stay a b (inl same) whole =
    ap (list_all (whole_specific_asset_id limits))
    (same_array spell_specific_asset_id specific_asset_id_facts.same b a same)
    ∙ whole
ids_stay a b (inr sent) whole = ids_sent b sent.0 sent.1

-- ---- kinds

abbrev pub parts_in : Form → List Part
parts_in (object_of xs) = xs
parts_in f = []

pub own_whole : (x y : Payload) (xs ys : List Part) (v : Data)
    → IsOrdered v → without_values y ≡ without_values x → fits_form (form_of x xs) v ≡ true
    → value (form_of y ys) ≡ over (lay_form (form_of x xs)) (value (form_of x xs)) (Some v)
    → whole_payload limits x ≡ true → whole_payload limits y ≡ true
unfolding lib.Utf8.encode
own_whole (p.Property t a i) (p.Property u b j) xs ys v order r fits e whole =
    let same : j ≡ i = cc in
    ap (whole_if_there limits) same ∙ whole
own_whole (p.MultiLanguageProperty a i) (p.MultiLanguageProperty b j) xs ys v order r fits e whole =
    let same : j ≡ i = cc in
    ap (whole_if_there limits) same ∙ whole
own_whole (p.Range t a b) (p.Range u c d) xs ys v order r fits e whole = refl
own_whole (p.File t a) (p.File u b) xs ys v order r fits e whole =
    text_stays t u
    (own_member (codes "contentType") (parts_in (form_of (p.File t a) xs))
    (parts_in (form_of (p.File u b) ys)) _ _ refl refl refl v order fits e)
    whole
own_whole (p.Blob t a) (p.Blob u b) xs ys v order r fits e whole =
    text_stays t u
    (own_member (codes "contentType") (parts_in (form_of (p.Blob t a) xs))
    (parts_in (form_of (p.Blob u b) ys)) _ _ refl refl refl v order fits e)
    whole
own_whole (p.ReferenceElement a) (p.ReferenceElement b) xs ys v order r fits e whole =
    let sent : reference_or_null b ≡ v = cc in
    reference_taken b v order fits sent
own_whole (p.RelationshipElement a b) (p.RelationshipElement c d) xs ys v order r fits e whole =
    let old = parts_in (form_of (p.RelationshipElement a b) xs) in
    let new = parts_in (form_of (p.RelationshipElement c d) ys) in
    and_from (whole_and_there limits c) (whole_and_there limits d)
    (reference_stays a c (own_member (codes "first") old new _ _ refl refl refl v order fits e) (and_left _ _ whole))
    (reference_stays b d (own_member (codes "second") old new _ _ refl refl refl v order fits e) (and_right _ _ whole))
own_whole (p.AnnotatedRelationshipElement a b) (p.AnnotatedRelationshipElement c d) xs ys v order r fits e whole =
    let old = parts_in (form_of (p.AnnotatedRelationshipElement a b) xs) in
    let new = parts_in (form_of (p.AnnotatedRelationshipElement c d) ys) in
    and_from (whole_and_there limits c) (whole_and_there limits d)
    (reference_stays a c (own_member (codes "first") old new _ _ refl refl refl v order fits e) (and_left _ _ whole))
    (reference_stays b d (own_member (codes "second") old new _ _ refl refl refl v order fits e) (and_right _ _ whole))
own_whole (p.Entity t g ids) (p.Entity u h jds) xs ys v order r fits e whole =
    let old = parts_in (form_of (p.Entity t g ids) xs) in
    let new = parts_in (form_of (p.Entity u h jds) ys) in
    and_from (is_some u) (list_all (whole_specific_asset_id limits) jds)
    (type_stays t u (own_member (codes "entityType") old new _ _ refl refl refl v order fits e) (and_left _ _ whole))
    (ids_stay ids jds
    (own_member (codes "specificAssetIds") old new _ _ refl refl refl v order fits e) (and_right _ _ whole))
own_whole (p.BasicEventElement o d s t b l m n)
    (p.BasicEventElement o' d' s' t' b' l' m' n') xs ys v order r fits e whole =
    let brokers : b' ≡ b = cc in
    and_from (whole_and_there limits o') (whole_if_there limits b')
    (reference_stays o o' (own_member (codes "observed") (parts_in (form_of (p.BasicEventElement o d s t b l m n) xs))
    (parts_in (form_of (p.BasicEventElement o' d' s' t' b' l' m' n') ys)) _ _ refl refl refl v order fits e)
    (and_left _ _ whole))
    (ap (whole_if_there limits) brokers ∙ and_right _ _ whole)
own_whole p.Capability p.Capability xs ys v order r fits e whole = refl
own_whole p.Operation p.Operation xs ys v order r fits e whole = refl
own_whole p.SubmodelElementCollection p.SubmodelElementCollection xs ys v order r fits e whole = refl
own_whole (p.SubmodelElementList o s t a) (p.SubmodelElementList o' s' t' a') xs ys v order r fits e whole =
    let same : s' ≡ s = cc in
    ap (whole_if_there limits) same ∙ whole
own_whole x y xs ys v order r fits e whole = absurd (cc)
