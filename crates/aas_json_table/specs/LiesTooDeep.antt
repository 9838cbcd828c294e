-- That a pointer leads from a JSON value, where so many levels are left, to a place for which none is left: one rule for each such place, and for each step to it. The levels are this profile's own rule.
use Rattle.std.specs.Prelude.{◌≡◌, ℕ, List, [], ◌∷◌, Some, None}
use Rattle.serde_json.specs.Data.{Data, array, object, Items, Members}
use Rattle.serde_json.specs.Find.{get_item}
use Rattle.aas_json_table.specs.Table.{Sort, MemberType, one, many, kept, plain, Row}
use Rattle.aas_json_table.specs.Rows.{Pointer, in_member, in_item, row_named, rows_of}
use Rattle.aas_json_table.specs.TooDeep.{Levels, enter, enter_kept}
use Rattle.aas_json_table.specs.Conforms.{IsMember}

pub data LiesTooDeep : Levels → MemberType → Data → Pointer → Type 0 where
  -- an object
  at_object : (left : Levels) (s : Sort) (ms : Members) → enter s left ≡ None → LiesTooDeep left (one s) (object ms) []
  -- a value of kept data
  at_plain : (left : Levels) (j : Data) → enter_kept left ≡ None → LiesTooDeep left plain j []
  -- within a member
  in_object : (left inside : Levels) (s : Sort) (ms : Members) (rows : List Row) (n : List ℕ) (j : Data) (r : Row) (p : Pointer) → enter s left ≡ Some inside → rows_of s ms ≡ Some rows → IsMember n j ms
      → row_named n rows ≡ Some r → LiesTooDeep inside r.member_type j p → LiesTooDeep left (one s) (object ms) (in_member n ∷ p)
  -- within an item
  in_array : (left : Levels) (s : Sort) (ds : Items) (n : ℕ) (j : Data) (p : Pointer) → get_item n ds ≡ Some j → LiesTooDeep left (one s) j p → LiesTooDeep left (many s) (array ds) (in_item n ∷ p)
  -- within kept data
  in_kept : (left : Levels) (ds : Items) (p : Pointer) → LiesTooDeep left plain (array ds) p → LiesTooDeep left kept (array ds) p
  in_plain_array : (left inside : Levels) (ds : Items) (n : ℕ) (j : Data) (p : Pointer) → enter_kept left ≡ Some inside → get_item n ds ≡ Some j → LiesTooDeep inside plain j p
      → LiesTooDeep left plain (array ds) (in_item n ∷ p)
  in_plain_object : (left inside : Levels) (ms : Members) (n : List ℕ) (j : Data) (p : Pointer) → enter_kept left ≡ Some inside → IsMember n j ms → LiesTooDeep inside plain j p
      → LiesTooDeep left plain (object ms) (in_member n ∷ p)
