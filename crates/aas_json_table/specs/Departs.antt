-- That a pointer leads from a JSON value to a place where it departs from the attribute table: one rule for each way to depart, and for each step to a place.
use Rattle.std.specs.Prelude.{◌≡◌, ℕ, List, [], ◌∷◌, true, false, codes, Some, None, Contains}
use Rattle.serde_json.specs.Data.{Data, array, object, Items, Members}
use Rattle.serde_json.specs.Find.{get_member, get_item}
use Rattle.aas_json_table.specs.Table.{Sort, MemberType, one, many, kept, plain, Row}
use Rattle.aas_json_table.specs.Rows.{Pointer, in_member, in_item, row_named, rows_of, is_there}
use Rattle.aas_json_table.specs.TooDeep.{Levels}
use Rattle.aas_json_table.specs.Conforms.{IsMember, Conforms}

pub data Departs : MemberType → Data → Pointer → Type 0 where
  -- the value itself: it doesn't conform, whatever levels are left
  at_value : (f : MemberType) (j : Data) → ((left : Levels) → Conforms left f j → ⊥) → Departs f j []
  -- the modelType of an object: it is absent, or none of the sort's
  at_model_type : (s : Sort) (ms : Members) → rows_of s ms ≡ None → Departs (one s) (object ms) (in_member (codes "modelType") ∷ [])
  -- a member that has no row
  at_unknown : (s : Sort) (ms : Members) (rows : List Row) (n : List ℕ) (j : Data) → rows_of s ms ≡ Some rows → IsMember n j ms → row_named n rows ≡ None → Departs (one s) (object ms) (in_member n ∷ [])
  -- a member that is required, and absent or an empty list
  at_missing : (s : Sort) (ms : Members) (rows : List Row) (r : Row) → rows_of s ms ≡ Some rows → Contains rows r → r.required ≡ true → is_there (get_member r.name ms) ≡ false → Departs (one s) (object ms) (in_member r.name ∷ [])
  -- within a member
  in_object : (s : Sort) (ms : Members) (rows : List Row) (n : List ℕ) (j : Data) (r : Row) (p : Pointer) → rows_of s ms ≡ Some rows → IsMember n j ms → row_named n rows ≡ Some r → Departs r.member_type j p
      → Departs (one s) (object ms) (in_member n ∷ p)
  -- within an item
  in_array : (s : Sort) (ds : Items) (n : ℕ) (j : Data) (p : Pointer) → get_item n ds ≡ Some j → Departs (one s) j p → Departs (many s) (array ds) (in_item n ∷ p)
  -- within kept data
  in_kept : (ds : Items) (p : Pointer) → Departs plain (array ds) p → Departs kept (array ds) p
  in_plain_array : (ds : Items) (n : ℕ) (j : Data) (p : Pointer) → get_item n ds ≡ Some j → Departs plain j p → Departs plain (array ds) (in_item n ∷ p)
  in_plain_object : (ms : Members) (n : List ℕ) (j : Data) (p : Pointer) → IsMember n j ms → Departs plain j p → Departs plain (object ms) (in_member n ∷ p)
