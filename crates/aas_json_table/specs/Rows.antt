-- The rows of an object in the attribute table, and where something lies in a JSON value.
use Rattle.std.specs.Prelude.{ℕ, List, [], ◌∷◌, Bool, true, false, codes, if◌then◌else◌, Option, Some, None, option_map, option_and_then}
use Rattle.std.specs.Str.{bytes_eq}
use Rattle.std.specs.Ordering.{nat_cmp, match_ordering}
use Rattle.std.specs.Cmp.Lexicographic.{slice_cmp}
use Rattle.serde_json.specs.Data.{Data, Members, array, no_items}
use Rattle.serde_json.specs.Find.{get_member, as_str}
use Rattle.aas_json_table.specs.Table.{Sort, Row, model_types, parts}

-- ---- pointers

-- one step into a value: a reference token (RFC 6901, section 3)
pub data Token : Type 0 where
  in_member : List ℕ → Token
  in_item : ℕ → Token

abbrev pub Pointer : Type 0
Pointer = List Token

-- the first answer, or else the later one
abbrev pub first_of : {A : Type 0} → Option A → Option A → Option A
first_of (Some x) later = Some x
first_of None later = later

-- an answer within a member or an item, seen from its parent
abbrev pub below : Token → Option Pointer → Option Pointer
below t p = option_map (λ rest. t ∷ rest) p

-- ---- rows

abbrev pub find : {A : Type 0} → List ℕ → List (List ℕ × A) → Option A
find n [] = None
find n (p ∷ ps) = if bytes_eq n p.0 then Some p.1 else find n ps

abbrev pub insert_row : Row → List Row → List Row
insert_row r [] = r ∷ []
insert_row r (s ∷ ss) = match_ordering (slice_cmp nat_cmp r.name s.name) (r ∷ s ∷ ss) (r ∷ s ∷ ss) (s ∷ insert_row r ss)

-- rows in byte order of their names
abbrev pub sorted : List Row → List Row
sorted [] = []
sorted (r ∷ rs) = insert_row r (sorted rs)

abbrev pub row_named : List ℕ → List Row → Option Row
row_named n [] = None
row_named n (r ∷ rs) = if bytes_eq n r.name then Some r else row_named n rs

-- the rows under the modelType that is given, or the rows of a part, which has none
abbrev pub choose : List (List ℕ × List Row) → List Row → Option Data → Option (List Row)
choose [] rows d = Some rows
choose (k ∷ ks) rows d = option_and_then (λ n. find n (k ∷ ks)) (option_and_then as_str d)

-- The rows of an object in byte order, by its modelType where the table demands one: none where that is absent or wrong.
unfoldable pub rows_of : Sort → Members → Option (List Row)
rows_of s ms = option_map sorted (choose (model_types s) (parts s) (get_member (codes "modelType") ms))

-- An empty list is as if it were absent: this profile's own rule.
abbrev pub is_there : Option Data → Bool
is_there None = false
is_there (Some (array no_items)) = false
is_there (Some d) = true
