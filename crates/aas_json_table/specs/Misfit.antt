-- The first mapping fault of a JSON value: where it first departs from the attribute table. The order of faults is this profile's own rule. At an object:
-- a value that is no object; a modelType that is absent or wrong, where the table demands one; the members in byte order, each with all that lies in it, an unknown
-- one being a fault; the first required member that is absent, in byte order. An array is walked from its front.
use Rattle.std.specs.Prelude.{ℕ, ◌+◌, List, [], ◌∷◌, codes, if◌then◌else◌, Option, Some, None}
use Rattle.serde_json.specs.Data.{Data, null, boolean, string, array, object, Items, no_items, item, Members, no_members, member}
use Rattle.serde_json.specs.Find.{get_member}
use Rattle.aas_json_table.specs.Names.{has}
use Rattle.aas_json_table.specs.Table.{MemberType, text, flag, word, one, many, kept, plain, Row}
use Rattle.aas_json_table.specs.Rows.{Pointer, in_member, in_item, first_of, below, row_named, rows_of, is_there}

-- the first required member that is absent
abbrev pub missing : List Row → Members → Option Pointer
missing [] ms = None
missing (r ∷ rs) ms = if r.required then (if is_there (get_member r.name ms) then missing rs ms else Some (in_member r.name ∷ [])) else missing rs ms

-- the fault of an object, of which its members' first fault is known under any rows
abbrev pub misfit_object : Option (List Row) → (List Row → Option Pointer) → Members → Option Pointer
misfit_object None inner ms = Some (in_member (codes "modelType") ∷ [])
misfit_object (Some rows) inner ms = first_of (inner rows) (missing rows ms)

-- the fault of a member, by its row: an unknown one is a fault itself
abbrev pub misfit_member : List ℕ → Option Row → (MemberType → Option Pointer) → Option Pointer
misfit_member n None inner = Some (in_member n ∷ [])
misfit_member n (Some r) inner = below (in_member n) (inner r.member_type)

abbrev mutual
  pub misfit : MemberType → Data → Option Pointer
  misfit text (string s) = None
  misfit flag (boolean b) = None
  misfit (word ws) (string s) = if has ws s then None else Some []
  misfit (one s) (object ms) = misfit_object (rows_of s ms) (misfit_members ms) ms
  misfit (many s) (array ds) = misfit_items ds (one s) 0
  misfit kept (array ds) = misfit_items ds plain 0
  misfit plain null = None
  misfit plain (boolean b) = None
  misfit plain (string s) = None
  misfit plain (array ds) = misfit_items ds plain 0
  misfit plain (object ms) = misfit_all ms
  misfit f d = Some []

  -- items of a type, the first of which has place n
  pub misfit_items : Items → MemberType → ℕ → Option Pointer
  misfit_items no_items f n = None
  misfit_items (item d ds) f n = first_of (below (in_item n) (misfit f d)) (misfit_items ds f (n + 1))

  -- members under rows
  pub misfit_members : Members → List Row → Option Pointer
  misfit_members no_members rows = None
  misfit_members (member k d ms) rows = first_of (misfit_member k (row_named k rows) (λ f. misfit f d)) (misfit_members ms rows)

  -- members of kept data
  pub misfit_all : Members → Option Pointer
  misfit_all no_members = None
  misfit_all (member k d ms) = first_of (below (in_member k) (misfit plain d)) (misfit_all ms)
