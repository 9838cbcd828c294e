-- What a JSON value says by the attribute table: its canonical value, with the members of the table in byte order and no empty list of the table.
-- None where it lacks what the type demands. Canonical values are this profile's own rule.
use Rattle.std.specs.Prelude.{ℕ, ◌&&◌, List, [], ◌∷◌, Bool, true, is_some, if◌then◌else◌, Option, Some, None}
use Rattle.std.specs.Ordering.{nat_cmp, match_ordering}
use Rattle.std.specs.Cmp.Lexicographic.{slice_cmp}
use Rattle.serde_json.specs.Data.{Data, null, boolean, string, array, object, Items, no_items, item, Members, no_members, member}
use Rattle.aas_json_table.specs.Names.{has}
use Rattle.aas_json_table.specs.Table.{MemberType, text, flag, word, one, many, kept, plain, Row}
use Rattle.aas_json_table.specs.Rows.{rows_of}

abbrev pub add : List ℕ → Option Data → Members → Members
add n None ms = ms
add n (Some d) ms = member n d ms

-- the members of rows, each as get finds it
abbrev pub members_by : List Row → (List ℕ → MemberType → Option Data) → Members
members_by [] get = no_members
members_by (r ∷ rs) get = add r.name (get r.name r.member_type) (members_by rs get)

-- each required member is found
abbrev pub are_there : List Row → (List ℕ → MemberType → Option Data) → Bool
are_there [] get = true
are_there (r ∷ rs) get = if r.required then is_some (get r.name r.member_type) && are_there rs get else are_there rs get

abbrev pub canonical_object : Option (List Row) → (List ℕ → MemberType → Option Data) → Option Data
canonical_object None get = None
canonical_object (Some rows) get = if are_there rows get then Some (object (members_by rows get)) else None

-- a list, of which the empty one is as if it were absent
abbrev pub listed : Items → Option Data
listed no_items = None
listed (item d ds) = Some (array (item d ds))

abbrev pub add_item : Option Data → Items → Items
add_item None ds = ds
add_item (Some d) ds = item d ds

abbrev mutual
  pub canonical : MemberType → Data → Option Data
  canonical text (string s) = Some (string s)
  canonical flag (boolean b) = Some (boolean b)
  canonical (word ws) (string s) = if has ws s then Some (string s) else None
  canonical (one s) (object ms) = canonical_object (rows_of s ms) (canonical_member ms)
  canonical (many s) (array ds) = listed (canonical_items ds (one s))
  canonical kept (array ds) = listed (canonical_items ds plain)
  canonical plain null = Some null
  canonical plain (boolean b) = Some (boolean b)
  canonical plain (string s) = Some (string s)
  canonical plain (array ds) = Some (array (canonical_items ds plain))
  canonical plain (object ms) = Some (object (canonical_all ms))
  canonical f d = None

  pub canonical_items : Items → MemberType → Items
  canonical_items no_items f = no_items
  canonical_items (item d ds) f = add_item (canonical f d) (canonical_items ds f)

  -- the member of a name, as a member of a type
  pub canonical_member : Members → List ℕ → MemberType → Option Data
  canonical_member no_members n f = None
  canonical_member (member k d ms) n f = match_ordering (slice_cmp nat_cmp n k) (canonical_member ms n f) (canonical f d) (canonical_member ms n f)

  -- the members of kept data
  pub canonical_all : Members → Members
  canonical_all no_members = no_members
  canonical_all (member k d ms) = add k (canonical plain d) (canonical_all ms)
