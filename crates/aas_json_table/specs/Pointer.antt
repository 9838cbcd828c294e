-- A pointer as text (RFC 6901, sections 3 and 5). The empty one prints as $: this profile's own rule.
use Rattle.std.specs.Prelude.{ℕ, List, [], ◌∷◌, ◌==◌, flat_map, if◌then◌else◌, decimal}
use Rattle.aas_json_table.specs.Rows.{Pointer, Token, in_member, in_item}

-- ~ is written ~0, and / is written ~1
abbrev pub escaped_byte : ℕ → List ℕ
escaped_byte b = if b == 126 then 126 ∷ 48 ∷ [] else (if b == 47 then 126 ∷ 49 ∷ [] else b ∷ [])

abbrev pub token_text : Token → List ℕ
token_text (in_member n) = 47 ∷ flat_map escaped_byte n
token_text (in_item n) = 47 ∷ decimal n

abbrev pub pointer_text : Pointer → List ℕ
pointer_text [] = 36 ∷ []
pointer_text (t ∷ rest) = flat_map token_text (t ∷ rest)
