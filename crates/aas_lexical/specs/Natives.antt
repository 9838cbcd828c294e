-- Which values the value form of a Property or a Range writes as a truth value or a number of JSON, and not as a string.
-- IDTA-01002-3-0, serialization ValueOnly; which numbers are written so is this profile's own rule.
use Rattle.std.specs.Prelude.{◌≡◌, ℕ, ℤ, pos, neg_ℤ, ◌-◌, ◌^◌, ◌≤ℤ◌, int_le, Bool, true, false, ◌&&◌, List, codes, bytes_eq, Option, Some, None, option_map, if◌then◌else◌}
use Rattle.std.specs.Fmt.{signed_decimal}
use Rattle.aas_model_names.specs.declared.value_type.ValueType.{ValueType}
use Rattle.aas_model_names.specs.declared.value_type.ValueType.TheVariants as xs
use Rattle.aas_lexical.specs.declared.natives.Native.{Native}
use Rattle.aas_lexical.specs.declared.natives.Native.TheVariants as native
use Rattle.aas_lexical.specs.Numbers.{integer_value}

abbrev pub is_boolean : ValueType → Bool
is_boolean xs.Boolean = true
is_boolean _ = false

-- the types whose whole numbers are written as numbers: the 13 integer types, and decimal, double and float
abbrev pub is_numeric : ValueType → Bool
is_numeric xs.AnyUri = false
is_numeric xs.Base64Binary = false
is_numeric xs.Boolean = false
is_numeric xs.Date = false
is_numeric xs.DateTime = false
is_numeric xs.Duration = false
is_numeric xs.GDay = false
is_numeric xs.GMonth = false
is_numeric xs.GMonthDay = false
is_numeric xs.GYear = false
is_numeric xs.GYearMonth = false
is_numeric xs.HexBinary = false
is_numeric xs.String = false
is_numeric xs.Time = false
is_numeric _ = true

-- the numbers that are written: from -2^63 to 2^64 - 1
abbrev pub IsWritten : ℤ → Type 0
IsWritten z = (neg_ℤ (pos (2 ^ 63)) ≤ℤ z) × (z ≤ℤ pos (2 ^ 64 - 1))

-- A text of the type is written as this value: `true` and `false` are at boolean, and at a numeric type a whole number
-- whose decimal text, with no plus and no leading zero, the text is.
abbrev pub IsNative : ValueType → Native → List ℕ → Type 0
IsNative t (native.Bool true) text = (is_boolean t ≡ true) × (text ≡ codes "true")
IsNative t (native.Bool false) text = (is_boolean t ≡ true) × (text ≡ codes "false")
IsNative t (native.Whole z) text = (is_numeric t ≡ true) × (text ≡ signed_decimal z) × IsWritten z

-- ---- the same as a function

abbrev pub truth_of : List ℕ → Option Native
truth_of text =
    if bytes_eq text (codes "true") then Some (native.Bool true)
    else (if bytes_eq text (codes "false") then Some (native.Bool false) else None)

abbrev pub is_written : ℤ → Bool
is_written z = int_le (neg_ℤ (pos (2 ^ 63))) z && int_le z (pos (2 ^ 64 - 1))

-- the number that the digits write, if the text is its decimal text
abbrev pub whole_of : List ℕ → Option ℤ
whole_of text =
    let z = integer_value text in
    if is_written z && bytes_eq text (signed_decimal z) then Some z else None

-- the value as which a text of the type is written, or none where it is written as a string
abbrev pub native_of : ValueType → List ℕ → Option Native
native_of t text =
    if is_boolean t then truth_of text
    else (if is_numeric t then option_map (λ z. native.Whole z) (whole_of text) else None)
