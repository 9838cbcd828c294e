-- What fits an attribute is spelled by something: texts, words, numbers and parts are read back.
use Rattle.std.proofs.Common.{◌≡◌, ℕ, pos, negsuc, zero, suc, ◌<◌, ◌^◌, Bool, true, false, List, [], ◌∷◌, map, codes}
use Rattle.std.proofs.Common.{Option, Some, None, is_some, is_none, unwrap_or, refl, sym, ap, ap₂, ◌∙◌, true≢false}
use Rattle.std.proofs.Common.{arith}
use Rattle.std.specs.Fmt.{decimal}
use Rattle.std.specs.Str.{IsAscii, chars, encode_utf8_all}
use Rattle.std.proofs.lemmas.Fmt.{IsAscii-decimal}
use Rattle.std.proofs.lemmas.Int.{ints}
use Rattle.std.proofs.lemmas.Option.{same_Some}
use Rattle.std.proofs.lemmas.Str.{encodes-chars, encodes-IsAscii}
use Rattle.serde_json.specs.Data.{Data, null, boolean, number, string, array, object, unsigned, negative, float, Items}
use Rattle.serde_json.specs.Data.{no_items, item, no_members, member}
use Rattle.serde_json.specs.Find.{get, get_member}
use Rattle.aas_lemmas.proofs.Truth.{and_left, and_right}
use Rattle.aas_model_names.specs.EntityTypeNames as entity_type
use Rattle.aas_model_names.specs.declared.value_type.ValueType.{ValueType}
use Rattle.aas_lexical.specs.Natives.{IsNative, native_of}
use Rattle.aas_lexical.specs.declared.natives.Native.{Native}
use Rattle.aas_lexical.specs.declared.natives.Native.TheVariants as native
use Rattle.aas_lexical.proofs.NativesExact.{native_full}
use Rattle.aas_json_table.specs.Canonical.{canonical}
use Rattle.aas_json_table.specs.Spelled.{onto}
use Rattle.aas_json_table.specs.Table.{Sort, one, reference, specific_asset_id}
use Rattle.aas_json_spelling.specs.Values.{IsText}
use Rattle.aas_json_spelling.proofs.Exists.{IsSpelled, there, named_there}
use Rattle.aas_json_mapping.specs.Parts.{spell_specific_asset_id}
use Rattle.aas_json_mapping.proofs.PartsFound.{some_specific_asset_id}
use Rattle.aas_reference.specs.Spelling.{spell_reference}
use Rattle.aas_reference.proofs.Exists.{some_reference}
use Rattle.aas_value.specs.Single.{native_or_text, single}
use Rattle.aas_value.specs.Attributes.{array_of, language_value, text_or_null, reference_or_null, entity_type_or_null}
use Rattle.aas_value.specs.Json.{is_single, is_string, is_string_or_null, is_language, is_array_of, all_items, is_part}
use Rattle.aas_value.specs.Json.{is_reference, is_reference_or_null, is_specific_asset_id, is_entity_type}
use Rattle.aas_value.specs.Parts.{Part, object_of, fits_if, fits_form}
use Rattle.aas_value_update.proofs.Canonical.{says_itself}
use Rattle.aas_value_update.proofs.Laid.{sent_fits, fits_named}
use Rattle.aas_value_laws.proofs.Sendable.{IsSendable, IfSendable, found_sendable, items_sendable}

-- what passes a test is spelled by something
abbrev pub Reads : {A : Type 0} → (A → Data) → (Data → Bool) → Type 0
Reads {A = A} spell test = (d : Data) → IsSendable d → test d ≡ true → (a : A) × (spell a ≡ d)

-- ---- single values

-- a text that is written natively
native_read : (t : ValueType) (n : Native) (s : List ℕ) → encode_utf8_all s ≡ s → IsNative t n s
    → single t (Some s) ≡ native_or_text (Some n) s
native_read t n s same is = ap (λ o. native_or_text o s) (ap (native_of t) same ∙ native_full t s n is)

-- one that isn't
text_itself : (t : ValueType) (s : List ℕ) → encode_utf8_all (chars s) ≡ s → native_of t s ≡ None
    → single t (Some (chars s)) ≡ string s
text_itself t s same none = ap (λ o. native_or_text o (chars s)) (ap (native_of t) same ∙ none) ∙ ap string same

no_native : (o : Option Native) → is_none o ≡ true → o ≡ None
no_native None none = refl
no_native (Some n) none = absurd (true≢false (sym none))

true_itself : encode_utf8_all (codes "true") ≡ codes "true"
unfolding lib.Utf8.encode
true_itself = refl

false_itself : encode_utf8_all (codes "false") ≡ codes "false"
unfolding lib.Utf8.encode
false_itself = refl

minus_ascii : (ds : List ℕ) → IsAscii ds → IsAscii (45 ∷ ds)
minus_ascii ds ascii zero = omega arith
minus_ascii ds ascii (suc i) = ascii i

pub single_read : (t : ValueType) → Reads (single t) (is_single t)
single_read t null good fits = (None, refl)
single_read t (boolean true) good fits =
    (Some (codes "true"), native_read t (native.Bool true) (codes "true") true_itself (fits, refl))
single_read t (boolean false) good fits =
    (Some (codes "false"), native_read t (native.Bool false) (codes "false") false_itself (fits, refl))
single_read t (number (unsigned n)) good fits =
    let small : n < 2 ^ 64 = good.numbers in (
      Some (decimal n),
      native_read t (native.Whole (pos n)) (decimal n) (encodes-IsAscii (decimal n) (IsAscii-decimal n small))
          (and_left _ _ fits, refl, (omega (arith, ints), omega (arith, ints))),
    )
single_read t (number (negative (pos n))) good fits = absurd good.numbers
single_read t (number (negative (negsuc n))) good fits =
    let small : n < 2 ^ 63 = good.numbers in (
      Some (45 ∷ decimal (suc n)),
      native_read t (native.Whole (negsuc n)) (45 ∷ decimal (suc n))
          (encodes-IsAscii (45 ∷ decimal (suc n))
          (minus_ascii (decimal (suc n)) (IsAscii-decimal (suc n) (omega arith))))
          (and_left _ _ fits, refl, (omega (arith, ints), omega (arith, ints))),
    )
single_read t (number (float x)) good fits = absurd good.numbers
single_read t (string s) good fits =
    (Some (chars s), text_itself t s (encodes-chars s good.text) (no_native (native_of t s) fits))
single_read t (array ds) good fits = absurd (true≢false (sym fits))
single_read t (object ms) good fits = absurd (true≢false (sym fits))

-- ---- texts and words

text_read : Reads text_or_null is_string
text_read (string s) good fits = (Some (chars s), ap string (encodes-chars s good.text))
text_read d good fits = absurd (true≢false (sym fits))

text_or_null_read : Reads text_or_null is_string_or_null
text_or_null_read null good fits = (None, refl)
text_or_null_read d good fits = text_read d good fits

entity_type_read : Reads entity_type_or_null is_entity_type
entity_type_read (string s) good fits =
    let t = named_there entity_type.name_of entity_type.all (Some (string s)) (s, fits, refl) refl in
    (Some t.0, sym (same_Some _ _ t.1))
entity_type_read d good fits = absurd (true≢false (sym fits))

language_read : Reads language_value is_language
language_read (object (member l (string s) no_members)) good fits = (
  record { language = chars l; text = chars s },
  ap₂ (λ k e. object (member k (string e) no_members)) (encodes-chars l good.text.0) (encodes-chars s good.text.1),
)
language_read d good fits = absurd (true≢false (sym fits))

-- ---- parts of the JSON mapping

part_read : {A : Type 0} (s : Sort) (spell : A → Data) → ((j : Data) → IsText j → IsSpelled spell (canonical (one s) j))
    → Reads spell (is_part s)
part_read s spell some d good fits =
    let says = says_itself s d fits good.order in
    let a = there spell (canonical (one s) d) (some d good.text) (ap (λ o. is_some o) says) in
    (a.0, same_Some _ _ (sym a.1 ∙ says))

reference_read : Reads reference_or_null is_reference
reference_read d good fits = let r = part_read reference spell_reference some_reference d good fits in (Some r.0, r.1)

pub reference_or_null_read : Reads reference_or_null is_reference_or_null
reference_or_null_read null good fits = (None, refl)
reference_or_null_read d good fits = reference_read d good fits

-- ---- lists

items_read : {A : Type 0} (spell : A → Data) (test : Data → Bool) → Reads spell test → (ds : Items)
    → IsSendable (array ds)
    → all_items test ds ≡ true → (xs : List A) × (onto (map spell xs) no_items ≡ ds)
items_read spell test reads no_items good fits = ([], refl)
items_read spell test reads (item d ds) good fits =
    let both = items_sendable d ds good in
    let x = reads d both.0 (and_left _ _ fits) in
    let xs = items_read spell test reads ds both.1 (and_right _ _ fits) in
    (x.0 ∷ xs.0, ap₂ item x.1 xs.1)

array_read : {A : Type 0} (spell : A → Data) (test : Data → Bool) → Reads spell test
    → Reads (array_of spell) (is_array_of test)
array_read spell test reads (array ds) good fits =
    let xs = items_read spell test reads ds good fits in (xs.0, ap array xs.1)
array_read spell test reads d good fits = absurd (true≢false (sym fits))

pub languages_read : Reads (array_of language_value) (is_array_of is_language)
languages_read = array_read language_value is_language language_read

specific_ids_read : Reads (array_of spell_specific_asset_id) (is_array_of is_specific_asset_id)
specific_ids_read =
    array_read spell_specific_asset_id is_specific_asset_id
    (part_read specific_asset_id spell_specific_asset_id some_specific_asset_id)

-- ---- members

-- what stands under a name fits the part of the name
pub found_fits : (n : List ℕ) (xs : List Part) (v : Data) → fits_form (object_of xs) v ≡ true
    → fits_if (fits_named n xs) (get n v) ≡ true
found_fits n xs (object ms) fits = by_found (get_member n ms) refl
  where
    by_found : (s : Option Data) → get_member n ms ≡ s → fits_if (fits_named n xs) s ≡ true
    by_found None found = refl
    by_found (Some d) found = sent_fits n xs ms d fits found
found_fits n xs v fits = absurd (true≢false (sym fits))

-- something spells what is sent, or else what o spells
abbrev pub Found : {A : Type 0} → (A → Data) → A → Option Data → Type 0
Found {A = A} spell o s = (a : A) × (spell a ≡ unwrap_or s (spell o))

-- what stands under a name of an object that fits is read, or the attribute stays
abbrev pub Finds : {A : Type 0} → (A → Data) → (Data → Bool) → Type 0
Finds {A = A} spell test =
    (n : List ℕ) (xs : List Part) (v : Data) → IsSendable v → fits_form (object_of xs) v ≡ true → fits_named n xs ≡ test
    → (o : A) → Found spell o (get n v)

find : {A : Type 0} (spell : A → Data) (test : Data → Bool) → Reads spell test → Finds spell test
find spell test reads n xs v good fits is o =
    by_found (get n v) (found_sendable n v good) (ap (λ t. fits_if t (get n v)) (sym is) ∙ found_fits n xs v fits)
  where
    by_found : (s : Option Data) → IfSendable s → fits_if test s ≡ true → Found spell o s
    by_found None good fits = (o, refl)
    by_found (Some d) good fits = reads d good fits

pub find_single : (t : ValueType) → Finds (single t) (is_single t)
find_single t = find (single t) (is_single t) (single_read t)

pub find_text : Finds text_or_null is_string
find_text = find text_or_null is_string text_read

pub find_text_or_null : Finds text_or_null is_string_or_null
find_text_or_null = find text_or_null is_string_or_null text_or_null_read

pub find_entity_type : Finds entity_type_or_null is_entity_type
find_entity_type = find entity_type_or_null is_entity_type entity_type_read

pub find_reference : Finds reference_or_null is_reference
find_reference = find reference_or_null is_reference reference_read

pub find_specific_ids : Finds (array_of spell_specific_asset_id) (is_array_of is_specific_asset_id)
find_specific_ids = find (array_of spell_specific_asset_id) (is_array_of is_specific_asset_id) specific_ids_read
