-- The classes of ASCII characters, named as in Rust.
use Rattle.std.specs.Prelude.{ℕ, Bool}
use Rattle.std.specs.Char.{is_ascii_digit, is_ascii_alphabetic, is_ascii_alphanumeric, is_ascii_hexdigit}
use Rattle.aas_lexical_forms.specs.declared.ascii.Ascii.{Ascii}
use Rattle.aas_lexical_forms.specs.declared.ascii.Ascii.TheVariants.{Digit, HexDigit, Letter, Alphanumeric}

abbrev pub is_in : Ascii → ℕ → Bool
is_in Digit = is_ascii_digit
is_in HexDigit = is_ascii_hexdigit
is_in Letter = is_ascii_alphabetic
is_in Alphanumeric = is_ascii_alphanumeric
