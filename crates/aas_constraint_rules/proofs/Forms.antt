-- The tests of texts tell whether the texts have the forms.
use Rattle.std.proofs.Common.{◌≡◌, ℕ, ℤ, ◌↔◌, ◌⊎◌, ◌||◌, Decides, List, [], ◌∷◌, Bool, true, false, Option, Some, None, bytes_eq, codes, refl, arith}
use Rattle.std.specs.Prelude.{◌≤ℤ◌, int_le, pos, neg_ℤ, ◌-◌, ◌^◌, ◌%◌, nat_le, length}
use Rattle.std.specs.Char.{is_ascii_hexdigit}
use Rattle.std.specs.List.{list_all}
use Rattle.std.specs.Str.{encode_utf8_all}
use Rattle.std.proofs.lemmas.Bool.Decides.{Decides-and, Decides-or, Decides-eqb}
use Rattle.std.proofs.lemmas.Int.{ints}
use Rattle.std.proofs.lemmas.Slice.Eq.{bytes_eq-Decides}
use Rattle.aas_model_names.specs.declared.value_type.ValueType.{ValueType}
use Rattle.aas_model_names.specs.declared.value_type.ValueType.TheVariants as xs
use Rattle.aas_lexical.specs.Numbers.{integer, integer_value, float, integer_from, integer_up_to, integer_between}
use Rattle.aas_lexical.specs.Values.{HasForm}
use Rattle.aas_lexical.specs.Names.{language, version, name, id_short, IsIdentifier, IsString}
use Rattle.aas_lexical.specs.Media.{media_type}
use Rattle.aas_lexical.specs.Times.{utc_date_time}
use Rattle.aas_lexical.specs.Cut.Names.{after_language, after_version, after_name, after_id_short}
use Rattle.aas_lexical.specs.Cut.Media.{after_media_type}
use Rattle.aas_lexical.specs.Cut.Times.{after_utc_date_time}
use Rattle.aas_lexical.specs.Cut.Numbers.{after_integer, after_decimal_with_exponent}
use Rattle.aas_lexical.proofs.NumbersExact.{decimal_exact, decimal_with_exponent_exact, integer_exact}
use Rattle.aas_lexical.proofs.BinaryExact.{base64_exact}
use Rattle.aas_lexical.proofs.DatesExact.{date_exact, g_year_month_exact, g_year_exact, g_month_day_exact, g_day_exact, g_month_exact, le_decided}
use Rattle.aas_lexical.proofs.TimesExact.{time_exact, date_time_exact, utc_date_time_exact}
use Rattle.aas_lexical.proofs.DurationsExact.{duration_exact}
use Rattle.aas_lexical.proofs.MediaExact.{media_type_exact}
use Rattle.aas_lexical.proofs.NamesExact.{language_exact, version_exact, name_exact, id_short_exact}
use Rattle.aas_constraint_rules.specs.Texts.{is_among}
use Rattle.aas_constraint_rules.specs.Decided.{is_identifier, is_language, is_version, is_media_type, is_utc_date_time, is_name, is_id_short, is_string, is_end, is_float, is_from, is_up_to, is_between, bytes_have_form}

-- a cut that leaves nothing
pub end_tells : {P : Type 0} (o : Option (List ℕ)) → (o ≡ Some []) ↔ P → Decides (is_end o) P
end_tells None h = (λ e. cc, λ p. let e = h.1 p in cc)
end_tells (Some []) h = (λ e. h.0 refl, λ p. refl)
end_tells (Some (x ∷ xs)) h = (λ e. cc, λ p. let e = h.1 p in cc)

-- ---- words

last_word : (text word : List ℕ) → Decides (bytes_eq text word || false) (text ≡ word)
last_word text word = by_test (bytes_eq text word) (bytes_eq-Decides text word)
  where
    by_test : (b : Bool) → Decides b (text ≡ word) → Decides (b || false) (text ≡ word)
    by_test true d = d
    by_test false d = d

one_of_four : (a b c d text : List ℕ) → Decides (is_among text (a ∷ b ∷ c ∷ d ∷ [])) ((text ≡ a) ⊎ ((text ≡ b) ⊎ ((text ≡ c) ⊎ (text ≡ d))))
one_of_four a b c d text =
    Decides-or (bytes_eq text a) _ (bytes_eq-Decides text a)
    (Decides-or (bytes_eq text b) _ (bytes_eq-Decides text b) (Decides-or (bytes_eq text c) _ (bytes_eq-Decides text c) (last_word text d)))

-- ---- numbers

int_le_tells : (a b : ℤ) → Decides (int_le a b) (a ≤ℤ b)
int_le_tells a b = (λ h. grind (arith, ints), λ h. grind (arith, ints))

float_tells : (text : List ℕ) → Decides (is_float text) (float text)
float_tells text =
    Decides-or (is_end (after_decimal_with_exponent text)) _ (end_tells (after_decimal_with_exponent text) (decimal_with_exponent_exact text))
    (one_of_four (codes "INF") (codes "+INF") (codes "-INF") (codes "NaN") text)

integer_tells : (text : List ℕ) → Decides (is_end (after_integer text)) (integer text)
integer_tells text = end_tells (after_integer text) (integer_exact text)

from_tells : (least : ℤ) (text : List ℕ) → Decides (is_from least text) (integer_from least text)
from_tells least text = Decides-and _ _ (integer_tells text) (int_le_tells least (integer_value text))

up_to_tells : (greatest : ℤ) (text : List ℕ) → Decides (is_up_to greatest text) (integer_up_to greatest text)
up_to_tells greatest text = Decides-and _ _ (integer_tells text) (int_le_tells (integer_value text) greatest)

between_tells : (least greatest : ℤ) (text : List ℕ) → Decides (is_between least greatest text) (integer_between least greatest text)
between_tells least greatest text =
    let d = Decides-and (is_end (after_integer text)) _ (integer_tells text)
    (Decides-and (int_le least (integer_value text)) _ (int_le_tells least (integer_value text)) (int_le_tells (integer_value text) greatest)) in
    (λ e. let h = d.0 e in (h.0, h.1.0, h.1.1), λ h. d.1 (h.0, (h.1, h.2)))

-- ---- value types

pub form_tells : (t : ValueType) (text : List ℕ) → Decides (bytes_have_form t text) (HasForm t text)
form_tells xs.AnyUri text = (λ e. tt, λ h. refl)
form_tells xs.Base64Binary text = end_tells _ (base64_exact text)
form_tells xs.Boolean text = one_of_four (codes "true") (codes "false") (codes "1") (codes "0") text
form_tells xs.Byte text = between_tells (neg_ℤ (pos (2 ^ (8 - 1)))) (pos (2 ^ (8 - 1) - 1)) text
form_tells xs.Date text = end_tells _ (date_exact text)
form_tells xs.DateTime text = end_tells _ (date_time_exact text)
form_tells xs.Decimal text = end_tells _ (decimal_exact text)
form_tells xs.Double text = float_tells text
form_tells xs.Duration text = end_tells _ (duration_exact text)
form_tells xs.Float text = float_tells text
form_tells xs.GDay text = end_tells _ (g_day_exact text)
form_tells xs.GMonth text = end_tells _ (g_month_exact text)
form_tells xs.GMonthDay text = end_tells _ (g_month_day_exact text)
form_tells xs.GYear text = end_tells _ (g_year_exact text)
form_tells xs.GYearMonth text = end_tells _ (g_year_month_exact text)
form_tells xs.HexBinary text = Decides-and (list_all is_ascii_hexdigit text) _ (λ e. e, λ e. e) (Decides-eqb (length text % 2) 0)
form_tells xs.Int text = between_tells (neg_ℤ (pos (2 ^ (32 - 1)))) (pos (2 ^ (32 - 1) - 1)) text
form_tells xs.Integer text = integer_tells text
form_tells xs.Long text = between_tells (neg_ℤ (pos (2 ^ (64 - 1)))) (pos (2 ^ (64 - 1) - 1)) text
form_tells xs.NegativeInteger text = up_to_tells (neg_ℤ (pos 1)) text
form_tells xs.NonNegativeInteger text = from_tells (pos 0) text
form_tells xs.NonPositiveInteger text = up_to_tells (pos 0) text
form_tells xs.PositiveInteger text = from_tells (pos 1) text
form_tells xs.Short text = between_tells (neg_ℤ (pos (2 ^ (16 - 1)))) (pos (2 ^ (16 - 1) - 1)) text
form_tells xs.String text = (λ e. tt, λ h. refl)
form_tells xs.Time text = end_tells _ (time_exact text)
form_tells xs.UnsignedByte text = between_tells (pos 0) (pos (2 ^ 8 - 1)) text
form_tells xs.UnsignedInt text = between_tells (pos 0) (pos (2 ^ 32 - 1)) text
form_tells xs.UnsignedLong text = between_tells (pos 0) (pos (2 ^ 64 - 1)) text
form_tells xs.UnsignedShort text = between_tells (pos 0) (pos (2 ^ 16 - 1)) text

-- ---- other texts

pub identifier_tells : (s : List ℕ) → Decides (is_identifier s) (IsIdentifier s)
identifier_tells s = Decides-and (nat_le 1 (length s)) _ (le_decided 1 (length s)) (le_decided (length s) 2048)

pub language_tells : (s : List ℕ) → Decides (is_language s) (language (encode_utf8_all s))
language_tells s = end_tells (after_language (encode_utf8_all s)) (language_exact (encode_utf8_all s))

pub version_tells : (s : List ℕ) → Decides (is_version s) (version (encode_utf8_all s))
version_tells s = end_tells (after_version (encode_utf8_all s)) (version_exact (encode_utf8_all s))

pub media_type_tells : (s : List ℕ) → Decides (is_media_type s) (media_type (encode_utf8_all s))
media_type_tells s = end_tells (after_media_type (encode_utf8_all s)) (media_type_exact (encode_utf8_all s))

pub utc_date_time_tells : (s : List ℕ) → Decides (is_utc_date_time s) (utc_date_time (encode_utf8_all s))
utc_date_time_tells s = end_tells (after_utc_date_time (encode_utf8_all s)) (utc_date_time_exact (encode_utf8_all s))

pub name_tells : (s : List ℕ) → Decides (is_name s) (name (encode_utf8_all s))
name_tells s = end_tells (after_name (encode_utf8_all s)) (name_exact (encode_utf8_all s))

pub id_short_tells : (s : List ℕ) → Decides (is_id_short s) (id_short (encode_utf8_all s))
id_short_tells s = end_tells (after_id_short (encode_utf8_all s)) (id_short_exact (encode_utf8_all s))

pub string_tells : (s : List ℕ) → Decides (is_string s) (IsString s)
string_tells s = (λ e. e, λ h. h)
