-- Numbers. XML Schema Part 2 (Second Edition), sections 3.2.3 to 3.2.5 and 3.3.13 to 3.3.25.
use Rattle.std.specs.Prelude.{ℕ, ◌-◌, ◌^◌, Bool, ℤ, pos, neg_ℤ, ◌≤ℤ◌, List}
use Rattle.std.specs.Char.{is_ascii_digit}
use Rattle.std.specs.Str.Parse.{signed_digits_value}
use Rattle.aas_lexical_forms.specs.Form.{lit, among, one, any, run, maybe, ◌∣◌, ◌▸◌}

abbrev pub is_sign : ℕ → Bool
is_sign = among "+-"

abbrev pub is_exponent_mark : ℕ → Bool
is_exponent_mark = among "eE"

-- 3.2.3 decimal: an optional sign, then digits with an optional point and optional digits behind it, or a point and digits
abbrev pub decimal : List ℕ → Type 0
decimal = maybe (one is_sign) ▸ ((run is_ascii_digit ▸ maybe (lit "." ▸ any is_ascii_digit)) ∣ (lit "." ▸ run is_ascii_digit))

abbrev pub exponent : List ℕ → Type 0
exponent = one is_exponent_mark ▸ maybe (one is_sign) ▸ run is_ascii_digit

abbrev pub decimal_with_exponent : List ℕ → Type 0
decimal_with_exponent = decimal ▸ maybe exponent

-- 3.2.4 float and 3.2.5 double. That `+INF` is one of them is this profile's own rule.
abbrev pub float : List ℕ → Type 0
float = decimal_with_exponent ∣ lit "INF" ∣ lit "+INF" ∣ lit "-INF" ∣ lit "NaN"

-- 3.3.13 integer: an optional sign and digits, as many as there may be
abbrev pub integer : List ℕ → Type 0
integer = maybe (one is_sign) ▸ run is_ascii_digit

-- the number that an integer writes
abbrev pub integer_value : List ℕ → ℤ
integer_value text = signed_digits_value 10 text

-- The types that stand below integer have the integers whose value lies within their bounds, with any sign that fits the
-- value, and with leading zeros: `-0` is a nonNegativeInteger. 3.3.14 to 3.3.25.
abbrev pub integer_from : ℤ → List ℕ → Type 0
integer_from least text = integer text × (least ≤ℤ integer_value text)

abbrev pub integer_up_to : ℤ → List ℕ → Type 0
integer_up_to greatest text = integer text × (integer_value text ≤ℤ greatest)

abbrev pub integer_between : ℤ → ℤ → List ℕ → Type 0
integer_between least greatest text = integer text × (least ≤ℤ integer_value text) × (integer_value text ≤ℤ greatest)

-- an integer of so many bits, one of them for the sign
abbrev pub signed_integer : ℕ → List ℕ → Type 0
signed_integer bits = integer_between (neg_ℤ (pos (2 ^ (bits - 1)))) (pos (2 ^ (bits - 1) - 1))

-- an integer of so many bits, with none for a sign
abbrev pub unsigned_integer : ℕ → List ℕ → Type 0
unsigned_integer bits = integer_between (pos 0) (pos (2 ^ bits - 1))
