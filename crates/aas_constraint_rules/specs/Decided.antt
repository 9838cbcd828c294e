-- The forms of texts as tests: each is true exactly where the text has the form. A text is given by its characters.
use Rattle.std.specs.Prelude.{ℕ, ℤ, pos, neg_ℤ, ◌-◌, ◌^◌, ◌%◌, ◌==◌, ◌&&◌, ◌||◌, int_le, nat_le, Bool, true, false, List, [], ◌∷◌, length, codes, Option, Some}
use Rattle.std.specs.Char.{is_ascii_hexdigit}
use Rattle.std.specs.List.{list_all}
use Rattle.std.specs.Str.{encode_utf8_all}
use Rattle.aas_model_names.specs.declared.value_type.ValueType.{ValueType}
use Rattle.aas_model_names.specs.declared.value_type.ValueType.TheVariants as xs
use Rattle.aas_lexical.specs.Numbers.{integer_value}
use Rattle.aas_lexical.specs.Names.{is_string_character}
use Rattle.aas_lexical.specs.Cut.Numbers.{after_decimal, after_decimal_with_exponent, after_integer}
use Rattle.aas_lexical.specs.Cut.Binary.{after_base64}
use Rattle.aas_lexical.specs.Cut.Dates.{after_date, after_g_year, after_g_year_month, after_g_month, after_g_day, after_g_month_day}
use Rattle.aas_lexical.specs.Cut.Times.{after_time, after_date_time, after_utc_date_time}
use Rattle.aas_lexical.specs.Cut.Durations.{after_duration}
use Rattle.aas_lexical.specs.Cut.Media.{after_media_type}
use Rattle.aas_lexical.specs.Cut.Names.{after_language, after_version, after_name, after_id_short}
use Rattle.aas_constraint_rules.specs.Texts.{is_among}

-- nothing is left
abbrev pub is_end : Option (List ℕ) → Bool
is_end (Some []) = true
is_end rest = false

-- ---- the value types, by the bytes of the text

abbrev pub is_float : List ℕ → Bool
is_float text = is_end (after_decimal_with_exponent text) || is_among text (codes "INF" ∷ codes "+INF" ∷ codes "-INF" ∷ codes "NaN" ∷ [])

abbrev pub is_from : ℤ → List ℕ → Bool
is_from least text = is_end (after_integer text) && int_le least (integer_value text)

abbrev pub is_up_to : ℤ → List ℕ → Bool
is_up_to greatest text = is_end (after_integer text) && int_le (integer_value text) greatest

abbrev pub is_between : ℤ → ℤ → List ℕ → Bool
is_between least greatest text = is_end (after_integer text) && (int_le least (integer_value text) && int_le (integer_value text) greatest)

abbrev pub is_signed : ℕ → List ℕ → Bool
is_signed bits = is_between (neg_ℤ (pos (2 ^ (bits - 1)))) (pos (2 ^ (bits - 1) - 1))

abbrev pub is_unsigned : ℕ → List ℕ → Bool
is_unsigned bits = is_between (pos 0) (pos (2 ^ bits - 1))

abbrev pub bytes_have_form : ValueType → List ℕ → Bool
bytes_have_form xs.AnyUri text = true
bytes_have_form xs.Base64Binary text = is_end (after_base64 text)
bytes_have_form xs.Boolean text = is_among text (codes "true" ∷ codes "false" ∷ codes "1" ∷ codes "0" ∷ [])
bytes_have_form xs.Byte text = is_signed 8 text
bytes_have_form xs.Date text = is_end (after_date text)
bytes_have_form xs.DateTime text = is_end (after_date_time text)
bytes_have_form xs.Decimal text = is_end (after_decimal text)
bytes_have_form xs.Double text = is_float text
bytes_have_form xs.Duration text = is_end (after_duration text)
bytes_have_form xs.Float text = is_float text
bytes_have_form xs.GDay text = is_end (after_g_day text)
bytes_have_form xs.GMonth text = is_end (after_g_month text)
bytes_have_form xs.GMonthDay text = is_end (after_g_month_day text)
bytes_have_form xs.GYear text = is_end (after_g_year text)
bytes_have_form xs.GYearMonth text = is_end (after_g_year_month text)
bytes_have_form xs.HexBinary text = list_all is_ascii_hexdigit text && (length text % 2 == 0)
bytes_have_form xs.Int text = is_signed 32 text
bytes_have_form xs.Integer text = is_end (after_integer text)
bytes_have_form xs.Long text = is_signed 64 text
bytes_have_form xs.NegativeInteger text = is_up_to (neg_ℤ (pos 1)) text
bytes_have_form xs.NonNegativeInteger text = is_from (pos 0) text
bytes_have_form xs.NonPositiveInteger text = is_up_to (pos 0) text
bytes_have_form xs.PositiveInteger text = is_from (pos 1) text
bytes_have_form xs.Short text = is_signed 16 text
bytes_have_form xs.String text = true
bytes_have_form xs.Time text = is_end (after_time text)
bytes_have_form xs.UnsignedByte text = is_unsigned 8 text
bytes_have_form xs.UnsignedInt text = is_unsigned 32 text
bytes_have_form xs.UnsignedLong text = is_unsigned 64 text
bytes_have_form xs.UnsignedShort text = is_unsigned 16 text

-- ---- by characters

-- a value of the type
abbrev pub has_form : ValueType → List ℕ → Bool
has_form t s = bytes_have_form t (encode_utf8_all s)

-- 1 to 2048 characters
abbrev pub is_identifier : List ℕ → Bool
is_identifier s = nat_le 1 (length s) && nat_le (length s) 2048

-- a language tag
abbrev pub is_language : List ℕ → Bool
is_language s = is_end (after_language (encode_utf8_all s))

-- a version or a revision
abbrev pub is_version : List ℕ → Bool
is_version s = is_end (after_version (encode_utf8_all s))

-- a media type with its parameters
abbrev pub is_media_type : List ℕ → Bool
is_media_type s = is_end (after_media_type (encode_utf8_all s))

-- an xs:dateTime in UTC
abbrev pub is_utc_date_time : List ℕ → Bool
is_utc_date_time s = is_end (after_utc_date_time (encode_utf8_all s))

-- a name: AASd-002
abbrev pub is_name : List ℕ → Bool
is_name s = is_end (after_name (encode_utf8_all s))

-- an idShort: a name of at most 128 characters
abbrev pub is_id_short : List ℕ → Bool
is_id_short s = is_end (after_id_short (encode_utf8_all s))

-- only the characters that XML allows
abbrev pub is_string : List ℕ → Bool
is_string s = list_all is_string_character s
