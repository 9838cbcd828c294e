-- How a tree is spelled: its attributes by name, put in the order of the table. One line an attribute says which member spells it.
use Rattle.std.specs.Prelude.{ℕ, List, [], ◌∷◌, map, Option, None, if◌then◌else◌}
use Rattle.std.specs.Str.{bytes_eq, encode_utf8_all}
use Rattle.serde_json.specs.Data.{Data, string, object, Items, no_items, item}
use Rattle.aas_json_table.specs.Table.{MemberType, Row}
use Rattle.aas_json_table.specs.Rows.{sorted}
use Rattle.aas_json_table.specs.Canonical.{members_by, listed}

-- attributes by name, each spelled where it is there
abbrev pub Attributes : Type 0
Attributes = List (List ℕ × Option Data)

abbrev pub attribute : Attributes → List ℕ → MemberType → Option Data
attribute [] n f = None
attribute (a ∷ others) n f = if bytes_eq n a.0 then a.1 else attribute others n f

-- the object that spells attributes: the member of each row that is there, in byte order
abbrev pub spelled : List Row → Attributes → Data
spelled rows attributes = object (members_by (sorted rows) (attribute attributes))

-- the characters of a text as a JSON string
abbrev pub text_of : List ℕ → Data
text_of s = string (encode_utf8_all s)

-- values before items
abbrev pub onto : List Data → Items → Items
onto [] rest = rest
onto (d ∷ ds) rest = item d (onto ds rest)

-- the array that spells a list; the empty list isn't spelled
abbrev pub list_of : {A : Type 0} → (A → Data) → List A → Option Data
list_of spell xs = listed (onto (map spell xs) no_items)
