-- The form of a kind fits itself where the kind's attributes are whole and the forms of the children fit themselves.
use Rattle.std.proofs.Common.{◌≡◌, ℕ, pos, negsuc, ◌&&◌, Bool, true, false, not, List, [], ◌∷◌, map, Option, Some, None}
use Rattle.std.proofs.Common.{is_some, is_none, refl, sym, ap, ◌∙◌, true≢false}
use Rattle.std.specs.Prelude.{bytes_eq, if◌then◌else◌}
use Rattle.std.specs.List.{list_all}
use Rattle.std.specs.Str.{encode_utf8_all}
use Rattle.std.proofs.lemmas.Bool.{and_from}
use Rattle.std.proofs.lemmas.Option.{none-some}
use Rattle.serde_json.specs.Data.{Data, null, Items, no_items, Members, no_members, member}
use Rattle.serde_json.specs.Find.{get_member}
use Rattle.aas_lemmas.proofs.Truth.{and_left, and_right}
use Rattle.aas_model_names.specs.EntityTypeNames as entity_type
use Rattle.aas_model_names.specs.declared.enumerations.EntityType.{EntityType}
use Rattle.aas_model_names.specs.declared.modifiers.Extent.{Extent}
use Rattle.aas_model_names.specs.declared.modifiers.Extent.TheVariants as extent
use Rattle.aas_model_names.specs.declared.value_type.ValueType.{ValueType}
use Rattle.aas_lexical.specs.Natives.{native_of}
use Rattle.aas_lexical.specs.declared.natives.Native.{Native}
use Rattle.aas_lexical.specs.declared.natives.Native.TheVariants as native
use Rattle.aas_lexical.proofs.NativesExact.{native_some}
use Rattle.aas_json_table.proofs.NameLemmas.{has_found}
use Rattle.aas_json_table.specs.Spelled.{onto}
use Rattle.aas_json_table.specs.Table.{Sort, one, reference, specific_asset_id}
use Rattle.aas_json_table.specs.TooDeep.{limits}
use Rattle.aas_json_spelling.specs.Good.{Good}
use Rattle.aas_json_spelling.specs.Lists.{Each}
use Rattle.aas_json_mapping.specs.Parts.{spell_specific_asset_id}
use Rattle.aas_json_mapping.specs.Whole.{whole_payload, whole_specific_asset_id}
use Rattle.aas_json_mapping.proofs.Facts.{reference_facts}
use Rattle.aas_json_mapping.proofs.Parts.{specific_asset_id_facts}
use Rattle.aas_model.specs.declared.parts.LangText.{LangText}
use Rattle.aas_model.specs.declared.parts.SpecificAssetId.{SpecificAssetId}
use Rattle.aas_model.specs.declared.payload.Payload.{Payload}
use Rattle.aas_model.specs.declared.payload.Payload.TheVariants as p
use Rattle.aas_model.specs.declared.reference.Reference.{Reference}
use Rattle.aas_reference.specs.Spelling.{spell_reference}
use Rattle.aas_reference.specs.Whole.{is_whole, whole_if_there, whole_and_there}
use Rattle.aas_value.specs.Single.{native_or_text, single}
use Rattle.aas_value.specs.Children.{named}
use Rattle.aas_value.specs.Attributes.{language_value, text_or_null, reference_or_null, entity_type_or_null}
use Rattle.aas_value.specs.Kinds as kinds
use Rattle.aas_value.specs.Json.{is_single, is_string, is_string_or_null, is_language, all_items, has_empty_list}
use Rattle.aas_value.specs.Json.{is_part, is_reference, is_reference_or_null, is_specific_asset_id, is_entity_type}
use Rattle.aas_value_update.specs.Forms.{form_of}
use Rattle.aas_value.specs.Parts.{Part, object_of, is_called, by_name, children, value, members_fit, items_fit}
use Rattle.aas_value.specs.Parts.{fits_if, entries_fit, fits_form}
use Rattle.aas_value_update.specs.Took.{AreNamed, NamedIn}
use Rattle.aas_value_update.proofs.Laid.{form, get_children, children_rise, own_entry, form_members, form_items}
use Rattle.aas_value_update.proofs.Laid.{items_with, form_entries, fits_first, fits_named}
use Rattle.aas_value_update.proofs.Members.{Rises, absent, same_name, name_itself, get_here, get_past}
use Rattle.aas_value_update.proofs.WholeOwn.{parts_in}
use Rattle.aas_value_laws.proofs.NoEmptyList.{no_empty_reference, no_empty_specific_id}

-- ---- attributes

native_fits : (t : ValueType) (s : List ℕ) (n : Option Native) → native_of t (encode_utf8_all s) ≡ n
    → is_single t (native_or_text n s) ≡ true
native_fits t s None is = ap (λ (n : Option Native). is_none n) is
native_fits t s (Some (native.Bool true)) is = (native_some t (encode_utf8_all s) (native.Bool true) is).0
native_fits t s (Some (native.Bool false)) is = (native_some t (encode_utf8_all s) (native.Bool false) is).0
native_fits t s (Some (native.Whole (pos n))) is =
    and_from _ _ (native_some t (encode_utf8_all s) (native.Whole (pos n)) is).0 refl
native_fits t s (Some (native.Whole (negsuc n))) is =
    and_from _ _ (native_some t (encode_utf8_all s) (native.Whole (negsuc n)) is).0 refl

single_fits : (t : ValueType) (o : Option (List ℕ)) → is_single t (single t o) ≡ true
single_fits t None = refl
single_fits t (Some s) = native_fits t s (native_of t (encode_utf8_all s)) refl

text_fits : (o : Option (List ℕ)) → is_some o ≡ true → is_string (text_or_null o) ≡ true
text_fits None there = absurd (true≢false (sym there))
text_fits (Some s) there = refl

text_or_null_fits : (o : Option (List ℕ)) → is_string_or_null (text_or_null o) ≡ true
text_or_null_fits None = refl
text_or_null_fits (Some s) = refl

entity_type_fits : (o : Option EntityType) → is_some o ≡ true → is_entity_type (entity_type_or_null o) ≡ true
entity_type_fits None there = absurd (true≢false (sym there))
entity_type_fits (Some t) there =
    has_found entity_type.name_of (entity_type.name_of t) t entity_type.all (entity_type.found t)

languages_fit : (ls : List LangText) → all_items is_language (onto (map language_value ls) no_items) ≡ true
languages_fit [] = refl
languages_fit (l ∷ ls) = languages_fit ls

-- what is good and has no empty list may be sent
part_fits : (s : Sort) (d : Data) → Good limits (one s) (Some d) → has_empty_list d ≡ false → is_part s d ≡ true
part_fits s d good full =
    and_from _ _ (and_from _ _ (ap (λ o. is_none o) good.fits) (ap (λ o. is_none o) good.low)) (ap not full)

reference_fits : (r : Reference) → is_whole limits r ≡ true → is_reference (spell_reference r) ≡ true
reference_fits r whole =
    part_fits reference (spell_reference r) (reference_facts.good limits r whole) (no_empty_reference r)

there_fits : (o : Option Reference) → whole_and_there limits o ≡ true → is_reference (reference_or_null o) ≡ true
there_fits None whole = absurd (true≢false (sym whole))
there_fits (Some r) whole = reference_fits r whole

reference_or_null_fits : (o : Option Reference) → whole_if_there limits o ≡ true
    → is_reference_or_null (reference_or_null o) ≡ true
reference_or_null_fits None whole = refl
reference_or_null_fits (Some r) whole = or_null (spell_reference r) (reference_fits r whole)
  where
    or_null : (d : Data) → is_reference d ≡ true → is_reference_or_null d ≡ true
    or_null null fits = refl
    or_null d fits = fits

ids_fit : (ids : List SpecificAssetId) → list_all (whole_specific_asset_id limits) ids ≡ true
    → all_items is_specific_asset_id (onto (map spell_specific_asset_id ids) no_items) ≡ true
ids_fit [] whole = refl
ids_fit (a ∷ ids) whole =
    let good = specific_asset_id_facts.good limits a (and_left _ _ whole) in
    and_from _ _ (part_fits specific_asset_id (spell_specific_asset_id a) good (no_empty_specific_id a))
    (ids_fit ids (and_right _ _ whole))

-- ---- parts whose own value fits them

abbrev pub FitsItself : Part → Type 0
FitsItself x = fits_if x.fits x.child.form ≡ true

named_fits : (n : List ℕ) (xs : List Part) → Each FitsItself xs → (t : Data → Bool) (o : Option Data)
    → fits_if t o ≡ true
    → fits_if (by_name n (λ x. x.fits) xs t) (by_name n form xs o) ≡ true
named_fits n [] each t o fits = fits
named_fits n (x ∷ xs) each t o fits =
    named_fits n xs each.1 (if is_called n x.child then x.fits else t) (if is_called n x.child then form x else o)
    (by_test (is_called n x.child))
  where
    by_test : (b : Bool) → fits_if (if b then x.fits else t) (if b then form x else o) ≡ true
    by_test true = each.0
    by_test false = fits

each_fits : (xs : List Part) (ms : Members) → Rises ms
    → ((n : List ℕ) (d : Data) → get_member n ms ≡ Some d → fits_named n xs d ≡ true)
    → members_fit xs ms ≡ true
each_fits xs no_members rises each = refl
each_fits xs (member k d ms) rises each =
    and_from _ _ (each k d (get_here k k d ms (name_itself k)))
    (each_fits xs ms rises.1 (λ n e there. by_test n e there (bytes_eq n k) refl))
  where
    by_test : (n : List ℕ) (e : Data) → get_member n ms ≡ Some e → (b : Bool) → bytes_eq n k ≡ b
        → fits_named n xs e ≡ true
    by_test n e there true is =
        absurd (none-some e (sym (ap (λ m. get_member m ms) (same_name n k is) ∙ absent k ms rises.0) ∙ there))
    by_test n e there false is = each n e (get_past n k d ms is ∙ there)

object_fits : (xs : List Part) → Each FitsItself xs → fits_form (object_of xs) (named (children xs)) ≡ true
object_fits xs each = each_fits xs (form_members xs) (children_rise xs no_members tt) (λ n d there.
    sym (ap (fits_if (fits_named n xs)) (sym (get_children n xs no_members) ∙ there))
    ∙ named_fits n xs each (λ e. false) None refl)

list_fits : (xs : List Part) → Each FitsItself xs → items_fit xs (form_items xs) ≡ true
list_fits [] each = refl
list_fits (x ∷ xs) each = by_form (form x) each.0 (list_fits xs each.1)
  where
    by_form : (o : Option Data) → fits_if x.fits o ≡ true → items_fit xs (form_items xs) ≡ true
        → fits_first (is_some o) x.fits (items_fit xs) (items_with o xs) ≡ true
    by_form None fits more = more
    by_form (Some d) fits more = and_from _ _ fits more

annotations_fit : (xs : List Part) → Each FitsItself xs → AreNamed xs → entries_fit xs (form_entries xs) ≡ true
annotations_fit [] each names = refl
annotations_fit (x ∷ xs) each names =
    ap (λ (e : Option Data × Items). fits_if x.fits e.0 && entries_fit xs e.1) (own_entry names.0.0 x xs names.0.1)
    ∙ and_from _ _ each.0 (annotations_fit xs each.1 names.1)

-- ---- kinds

kind_fits : (x : Payload) (xs : List Part) → whole_payload limits x ≡ true → Each FitsItself xs → NamedIn x xs
    → fits_if (fits_form (form_of x xs)) (value (form_of x xs)) ≡ true
kind_fits (p.Property t a i) xs whole each names = single_fits t a
kind_fits (p.MultiLanguageProperty a i) xs whole each names = languages_fit a
kind_fits (p.Range t a b) xs whole each names =
    object_fits (parts_in (form_of (p.Range t a b) xs)) (single_fits t b, (single_fits t a, tt))
kind_fits (p.File t a) xs whole each names =
    object_fits (parts_in (form_of (p.File t a) xs)) (text_fits t whole, (text_or_null_fits a, tt))
kind_fits (p.Blob t a) xs whole each names =
    object_fits (parts_in (form_of (p.Blob t a) xs)) (text_fits t whole, (text_or_null_fits a, tt))
kind_fits (p.ReferenceElement a) xs whole each names = reference_or_null_fits a whole
kind_fits (p.RelationshipElement a b) xs whole each names =
    object_fits (parts_in (form_of (p.RelationshipElement a b) xs))
    (there_fits a (and_left _ _ whole), (there_fits b (and_right _ _ whole), tt))
kind_fits (p.AnnotatedRelationshipElement a b) xs whole each names =
    object_fits (parts_in (form_of (p.AnnotatedRelationshipElement a b) xs))
    (annotations_fit xs each names, (there_fits a (and_left _ _ whole), (there_fits b (and_right _ _ whole), tt)))
kind_fits (p.Entity t g ids) xs whole each names =
    object_fits (parts_in (form_of (p.Entity t g ids) xs)) (
      entity_type_fits t (and_left _ _ whole),
      (text_or_null_fits g, (ids_fit ids (and_right _ _ whole), (object_fits xs each, tt))),
    )
kind_fits (p.BasicEventElement o d s t b l m n) xs whole each names =
    object_fits (parts_in (form_of (p.BasicEventElement o d s t b l m n) xs)) (there_fits o (and_left _ _ whole), tt)
kind_fits p.Capability xs whole each names = refl
kind_fits p.Operation xs whole each names = refl
kind_fits p.SubmodelElementCollection xs whole each names = object_fits xs each
kind_fits (p.SubmodelElementList o s t a) xs whole each names = list_fits xs each

-- the same of the form to an extent: without a Blob's value it has a member less
pub shown_fits : (y : Extent) (x : Payload) (xs : List Part) → whole_payload limits x ≡ true → Each FitsItself xs
    → NamedIn x xs
    → fits_if (fits_form (form_of x xs)) (value (kinds.form_of y x xs)) ≡ true
unfolding lib.Utf8.encode
shown_fits extent.WithBlobValue x xs whole each names = kind_fits x xs whole each names
shown_fits extent.WithoutBlobValue (p.Blob t a) xs whole each names = and_from _ _ (text_fits t whole) refl
shown_fits extent.WithoutBlobValue x xs whole each names = kind_fits x xs whole each names
