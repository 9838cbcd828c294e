-- The form of each value type: IDTA-01001-3-0, DataTypeDefXsd, and the sections of XML Schema Part 2 (Second Edition) that
-- the types are named after. White space is not collapsed, which is this profile's own rule.
use Rattle.std.specs.Prelude.{ℕ, pos, neg_ℤ, List, ⊤}
use Rattle.aas_lexical_forms.specs.Form.{lit, ◌∣◌}
use Rattle.aas_model_names.specs.declared.value_type.ValueType.{ValueType}
use Rattle.aas_model_names.specs.declared.value_type.ValueType.TheVariants as xs
use Rattle.aas_lexical.specs.Numbers.{decimal, float, integer, integer_from, integer_up_to, signed_integer, unsigned_integer}
use Rattle.aas_lexical.specs.Binary.{hex_binary, base64_binary}
use Rattle.aas_lexical.specs.Dates.{date, g_year, g_year_month, g_month, g_day, g_month_day}
use Rattle.aas_lexical.specs.Times.{time, date_time}
use Rattle.aas_lexical.specs.Durations.{duration}

-- 3.2.2 boolean
abbrev pub boolean : List ℕ → Type 0
boolean = lit "true" ∣ lit "false" ∣ lit "1" ∣ lit "0"

-- The text has the form of the type. It is given by its bytes in UTF-8: of a text that is given by its characters this is
-- `HasForm type (encode_utf8_all characters)`. That each text is an anyURI is this profile's own rule.
abbrev pub HasForm : ValueType → List ℕ → Type 0
HasForm xs.AnyUri = λ text. ⊤
HasForm xs.Base64Binary = base64_binary
HasForm xs.Boolean = boolean
HasForm xs.Byte = signed_integer 8
HasForm xs.Date = date
HasForm xs.DateTime = date_time
HasForm xs.Decimal = decimal
HasForm xs.Double = float
HasForm xs.Duration = duration
HasForm xs.Float = float
HasForm xs.GDay = g_day
HasForm xs.GMonth = g_month
HasForm xs.GMonthDay = g_month_day
HasForm xs.GYear = g_year
HasForm xs.GYearMonth = g_year_month
HasForm xs.HexBinary = hex_binary
HasForm xs.Int = signed_integer 32
HasForm xs.Integer = integer
HasForm xs.Long = signed_integer 64
HasForm xs.NegativeInteger = integer_up_to (neg_ℤ (pos 1))
HasForm xs.NonNegativeInteger = integer_from (pos 0)
HasForm xs.NonPositiveInteger = integer_up_to (pos 0)
HasForm xs.PositiveInteger = integer_from (pos 1)
HasForm xs.Short = signed_integer 16
HasForm xs.String = λ text. ⊤
HasForm xs.Time = time
HasForm xs.UnsignedByte = unsigned_integer 8
HasForm xs.UnsignedInt = unsigned_integer 32
HasForm xs.UnsignedLong = unsigned_integer 64
HasForm xs.UnsignedShort = unsigned_integer 16
