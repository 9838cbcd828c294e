-- That a JSON value has the type of a member by the attribute table (the JSON mapping of IDTA-01001-3-0), where so many levels are left: one rule for each way to have one.
-- No rule speaks of an order or a place. The walks `misfit` and `too_deep` find nothing exactly where a value conforms. The levels are this profile's own rule.
use Rattle.std.specs.Prelude.{◌≡◌, ◌⊎◌, ℕ, List, Bool, true, Some, IsSome, All}
use Rattle.serde_json.specs.Data.{Data, null, boolean, string, array, object, Items, no_items, item, Members, no_members, member}
use Rattle.serde_json.specs.Find.{get_member}
use Rattle.aas_json_table.specs.Names.{has}
use Rattle.aas_json_table.specs.Table.{Sort, MemberType, text, flag, word, one, many, kept, plain, Row}
use Rattle.aas_json_table.specs.Rows.{row_named, rows_of, is_there}
use Rattle.aas_json_table.specs.TooDeep.{Levels, enter, enter_kept}

-- j is one of the items
abbrev pub IsItem : Data → Items → Type 0
IsItem j no_items = ⊥
IsItem j (item d ds) = (j ≡ d) ⊎ IsItem j ds

-- j is a member, of the name n
abbrev pub IsMember : List ℕ → Data → Members → Type 0
IsMember n j no_members = ⊥
IsMember n j (member k d ms) = ((n ≡ k) × (j ≡ d)) ⊎ IsMember n j ms

-- each member has a row
abbrev pub HasRows : List Row → Members → Type 0
HasRows rows ms = (n : List ℕ) (j : Data) → IsMember n j ms → IsSome (row_named n rows)

-- each row that is required has a member, which is no empty list
abbrev pub HasRequired : List Row → Members → Type 0
HasRequired rows ms = All (λ r. r.required ≡ true → is_there (get_member r.name ms) ≡ true) rows

pub data Conforms : Levels → MemberType → Data → Type 0 where
  -- a string
  a_text : (left : Levels) (s : List ℕ) → Conforms left text (string s)
  -- a truth value
  a_flag : (left : Levels) (b : Bool) → Conforms left flag (boolean b)
  -- a string that is one of some names
  a_word : (left : Levels) (names : List (List ℕ)) (s : List ℕ) → has names s ≡ true → Conforms left (word names) (string s)
  -- an object of a sort: a level is left for it; its modelType is one of the sort's, where the table has any; each member has a row, and what the row demands; each required row has a member
  an_object : (left inside : Levels) (s : Sort) (ms : Members) (rows : List Row) → enter s left ≡ Some inside → rows_of s ms ≡ Some rows → HasRows rows ms → HasRequired rows ms
      → ((n : List ℕ) (j : Data) (r : Row) → IsMember n j ms → row_named n rows ≡ Some r → Conforms inside r.member_type j) → Conforms left (one s) (object ms)
  -- an array of objects of a sort
  an_array : (left : Levels) (s : Sort) (ds : Items) → ((j : Data) → IsItem j ds → Conforms left (one s) j) → Conforms left (many s) (array ds)
  -- an array of kept data
  a_kept : (left : Levels) (ds : Items) → Conforms left plain (array ds) → Conforms left kept (array ds)
  -- kept data: anything without numbers, where each value takes a level
  plain_null : (left inside : Levels) → enter_kept left ≡ Some inside → Conforms left plain null
  plain_flag : (left inside : Levels) (b : Bool) → enter_kept left ≡ Some inside → Conforms left plain (boolean b)
  plain_text : (left inside : Levels) (s : List ℕ) → enter_kept left ≡ Some inside → Conforms left plain (string s)
  plain_array : (left inside : Levels) (ds : Items) → enter_kept left ≡ Some inside → ((j : Data) → IsItem j ds → Conforms inside plain j) → Conforms left plain (array ds)
  plain_object : (left inside : Levels) (ms : Members) → enter_kept left ≡ Some inside → ((n : List ℕ) (j : Data) → IsMember n j ms → Conforms inside plain j) → Conforms left plain (object ms)
