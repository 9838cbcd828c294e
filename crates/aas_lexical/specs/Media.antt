-- Media types. RFC 9110, sections 5.6.2 (token), 5.6.4 (quoted-string), 5.6.6 (parameters) and 8.3.1 (media-type). That
-- each `;` has its parameter behind it is the rule of IDTA-01001-3-0, ContentType.
use Rattle.std.specs.Prelude.{ℕ, ◌||◌, ◌&&◌, not, Bool, List}
use Rattle.std.specs.Char.{is_ascii_alphanumeric}
use Rattle.std.specs.Int.{is_in_range}
use Rattle.aas_lexical_forms.specs.Form.{lit, among, one, any, run, Many, ◌∣◌, ◌▸◌}

abbrev pub is_token_byte : ℕ → Bool
is_token_byte b = is_ascii_alphanumeric b || among "!#$%&'*+-.^_`|~" b

abbrev pub is_space : ℕ → Bool
is_space = among " \t"

-- a tab, or U+0020 to U+007E
abbrev pub is_printable : ℕ → Bool
is_printable b = among "\t" b || is_in_range 0x20 0x7E b

-- the same without `"` and `\`
abbrev pub is_plain : ℕ → Bool
is_plain b = is_printable b && not (among "\"\\" b)

-- the first and the second byte of U+0080 to U+00FF in UTF-8: RFC 3629, section 3
abbrev pub is_lead : ℕ → Bool
is_lead b = is_in_range 0xC2 0xC3 b

abbrev pub is_continuation : ℕ → Bool
is_continuation b = is_in_range 0x80 0xBF b

-- U+0080 to U+00FF
abbrev pub high : List ℕ → Type 0
high = one is_lead ▸ one is_continuation

-- a character that stands for itself, or a `\` and any one
abbrev pub quoted_character : List ℕ → Type 0
quoted_character = one is_plain ∣ high ∣ (lit "\\" ▸ (one is_printable ∣ high))

abbrev pub quoted : List ℕ → Type 0
quoted = lit "\"" ▸ Many quoted_character ▸ lit "\""

abbrev pub parameter : List ℕ → Type 0
parameter = any is_space ▸ lit ";" ▸ any is_space ▸ run is_token_byte ▸ lit "=" ▸ (run is_token_byte ∣ quoted)

abbrev pub media_type : List ℕ → Type 0
media_type = run is_token_byte ▸ lit "/" ▸ run is_token_byte ▸ Many parameter
