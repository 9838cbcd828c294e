-- Binary texts. XML Schema Part 2 (Second Edition), sections 3.2.15 and 3.2.16, and RFC 4648, section 4.
use Rattle.std.specs.Prelude.{◌≡◌, ℕ, ◌%◌, ◌||◌, Bool, List, length}
use Rattle.std.specs.Char.{is_ascii_alphanumeric, is_ascii_hexdigit}
use Rattle.aas_lexical_forms.specs.Form.{lit, among, one, any, maybe, Many, ◌∣◌, ◌▸◌}

-- 3.2.15 hexBinary: an even number of hexadecimal digits, or none
abbrev pub hex_binary : List ℕ → Type 0
hex_binary text = any is_ascii_hexdigit text × (length text % 2 ≡ 0)

-- a symbol of base64, which stands for six bits
abbrev pub is_symbol : ℕ → Bool
is_symbol b = is_ascii_alphanumeric b || among "+/" b

-- a symbol whose last two bits are zero
abbrev pub is_symbol_of_four_bits : ℕ → Bool
is_symbol_of_four_bits = among "AEIMQUYcgkosw048"

-- a symbol whose last four bits are zero
abbrev pub is_symbol_of_two_bits : ℕ → Bool
is_symbol_of_two_bits = among "AQgw"

-- three bytes
abbrev pub group : List ℕ → Type 0
group = one is_symbol ▸ one is_symbol ▸ one is_symbol ▸ one is_symbol

-- two bytes or one, with padding, and with zeros for the bits that are spare
abbrev pub padded_group : List ℕ → Type 0
padded_group = one is_symbol ▸ ((one is_symbol ▸ one is_symbol_of_four_bits ▸ lit "=") ∣ (one is_symbol_of_two_bits ▸ lit "=="))

-- 3.2.16 base64Binary, without white space in it, which is this profile's own rule
abbrev pub base64_binary : List ℕ → Type 0
base64_binary = Many group ▸ maybe padded_group
