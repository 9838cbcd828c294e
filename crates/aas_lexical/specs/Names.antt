-- Names, languages, versions and identifiers, and the characters of a text.
use Rattle.std.specs.Prelude.{◌≡◌, ℕ, ◌≤◌, ◌==◌, ◌||◌, Bool, true, List, length}
use Rattle.std.specs.Char.{is_ascii_digit, is_ascii_alphabetic, is_ascii_alphanumeric}
use Rattle.std.specs.Int.{is_in_range}
use Rattle.std.specs.List.{list_all}
use Rattle.aas_lexical_forms.specs.Form.{lit, among, one, any, run, up_to, Many, ◌∣◌, ◌▸◌}

-- The tags of a language: 1 to 8 letters, and then groups of a minus and 1 to 8 letters or digits. XML Schema Part 2
-- (Second Edition), section 3.3.3, as RFC 3066, section 2.1, has it; that each such text will do, and not only the tags
-- that RFC 5646 registers, is this profile's own rule.
abbrev pub language : List ℕ → Type 0
language = up_to 8 (run is_ascii_alphabetic) ▸ Many (lit "-" ▸ up_to 8 (run is_ascii_alphanumeric))

abbrev pub is_nonzero_digit : ℕ → Bool
is_nonzero_digit = among "123456789"

-- A version, and a revision: `0`, or 1 to 4 digits without a leading zero. IDTA-01001-3-0, AdministrativeInformation.
abbrev pub version : List ℕ → Type 0
version = lit "0" ∣ (one is_nonzero_digit ▸ up_to 3 (any is_ascii_digit))

abbrev pub is_name_character : ℕ → Bool
is_name_character c = is_ascii_alphanumeric c || among "_" c

-- A name: a letter, and then letters, digits and `_`. IDTA-01001-3-0, constraint AASd-002.
abbrev pub name : List ℕ → Type 0
name = one is_ascii_alphabetic ▸ any is_name_character

-- IDTA-01001-3-0, NameType
abbrev pub most_name_characters : ℕ
most_name_characters = 128

-- A short name is no longer.
abbrev pub id_short : List ℕ → Type 0
id_short = up_to most_name_characters name

-- An identifier, by its characters: 1 to 2048 of them. This profile's own rule.
abbrev pub IsIdentifier : List ℕ → Type 0
IsIdentifier characters = (1 ≤ length characters) × (length characters ≤ 2048)

-- A character that a text may have: IDTA-01001-3-0, constraint AASd-130, and XML 1.0 (Fifth Edition), section 2.2.
abbrev pub is_string_character : ℕ → Bool
is_string_character c =
    c == 0x9 || c == 0xA || c == 0xD
    || is_in_range 0x20 0xD7FF c || is_in_range 0xE000 0xFFFD c || is_in_range 0x10000 0x10FFFF c

-- A text with such characters alone, by its characters.
abbrev pub IsString : List ℕ → Type 0
IsString characters = list_all is_string_character characters ≡ true
