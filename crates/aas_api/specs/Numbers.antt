-- The first number of a JSON value that isn't whole, from -2^63 to 2^64 - 1. An array is walked from its front, and the
-- members of an object in the order in which they stand, which is that of their names where a value is read. This
-- profile's own rule.
use Rattle.std.specs.Prelude.{ℕ, ◌+◌, ◌^◌, nat_lt, pos, negsuc, [], Bool, false, if◌then◌else◌, Option, Some, None}
use Rattle.serde_json.specs.Data.{Num, unsigned, negative, float, Data, number, array, object, Items, no_items, item}
use Rattle.serde_json.specs.Data.{Members, no_members, member}
use Rattle.aas_json_table.specs.Rows.{Pointer, in_member, in_item, first_of, below}

abbrev pub is_whole : Num → Bool
is_whole (unsigned n) = nat_lt n (2 ^ 64)
is_whole (negative (pos n)) = false
is_whole (negative (negsuc n)) = nat_lt n (2 ^ 63)
is_whole (float x) = false

abbrev mutual
  pub broken_number : Data → Option Pointer
  broken_number (number n) = if is_whole n then None else Some []
  broken_number (array ds) = broken_number_of_items ds 0
  broken_number (object ms) = broken_number_of_members ms
  broken_number d = None

  -- of items, the first of which has place n
  pub broken_number_of_items : Items → ℕ → Option Pointer
  broken_number_of_items no_items n = None
  broken_number_of_items (item d ds) n =
      first_of (below (in_item n) (broken_number d)) (broken_number_of_items ds (n + 1))

  pub broken_number_of_members : Members → Option Pointer
  broken_number_of_members no_members = None
  broken_number_of_members (member k d ms) =
      first_of (below (in_member k) (broken_number d)) (broken_number_of_members ms)
