-- The text before a member's value (RFC 8259, section 4), as this profile writes objects: behind another member, and
-- with no white space.
use Rattle.std.specs.Prelude.{ℕ, ◌-◌, ◌&&◌, List, [], ◌∷◌, ◌++◌, Bool, bytes_eq, drop, length, take}
use Rattle.aas_json_write_members.specs.Members.{is_plain}

-- the name in such a text: what stands between its first two bytes and its last two
abbrev pub name_in : List ℕ → List ℕ
name_in key = take (length key - 4) (drop 2 key)

-- a comma, a name in quotes that stands as it is, and a colon
abbrev pub is_key : List ℕ → Bool
is_key key = bytes_eq key (44 ∷ 34 ∷ (name_in key ++ 34 ∷ 58 ∷ [])) && is_plain (name_in key)
