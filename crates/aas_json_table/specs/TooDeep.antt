-- The first place of a JSON value that lies too deep, in the order of the first mapping fault. The limits are this profile's own rule.
use Rattle.std.specs.Prelude.{ℕ, zero, suc, ◌+◌, nat_lt, Bool, false, List, [], Option, Some, None, option_map}
use Rattle.serde_json.specs.Data.{Data, array, object, Items, no_items, item, Members, no_members, member}
use Rattle.aas_json_table.specs.Table.{Sort, reference, element, data_element, MemberType, one, many, kept, plain, Row}
use Rattle.aas_json_table.specs.Rows.{Pointer, in_member, in_item, first_of, below, row_named, rows_of}

-- how many levels are left
pub record Levels : Type 0 where
  pub elements : ℕ
  pub references : ℕ
  pub kept : ℕ

-- at the outside of a document: 30 levels of elements, 4 of references, 12 of kept data
abbrev pub limits : Levels
limits = record { elements = 30; references = 4; kept = 12 }

abbrev pub spend : ℕ → Option ℕ
spend zero = None
spend (suc n) = Some n

-- what is left inside an object of a sort; none where there is no level for it
abbrev pub enter : Sort → Levels → Option Levels
enter reference l = option_map (λ n. record l { references = n }) (spend l.references)
enter element l = option_map (λ n. record l { elements = n }) (spend l.elements)
enter data_element l = option_map (λ n. record l { elements = n }) (spend l.elements)
enter s l = Some l

-- what is left inside kept data
abbrev pub enter_kept : Levels → Option Levels
enter_kept l = option_map (λ n. record l { kept = n }) (spend l.kept)

-- here, where no level is left; else inside
abbrev pub within : Option Levels → (Levels → Option Pointer) → Option Pointer
within None inner = Some []
within (Some l) inner = inner l

abbrev pub too_deep_object : Option (List Row) → (List Row → Levels → Option Pointer) → Levels → Option Pointer
too_deep_object None inner l = None
too_deep_object (Some rows) inner l = inner rows l

abbrev pub too_deep_member : List ℕ → Option Row → (MemberType → Option Pointer) → Option Pointer
too_deep_member n None inner = None
too_deep_member n (Some r) inner = below (in_member n) (inner r.member_type)

abbrev mutual
  pub too_deep : MemberType → Data → Levels → Option Pointer
  too_deep (one s) (object ms) l = within (enter s l) (too_deep_object (rows_of s ms) (too_deep_members ms))
  too_deep (many s) (array ds) l = too_deep_items ds (one s) 0 l
  too_deep kept (array ds) l = within (enter_kept l) (too_deep_items ds plain 0)
  too_deep plain (array ds) l = within (enter_kept l) (too_deep_items ds plain 0)
  too_deep plain (object ms) l = within (enter_kept l) (too_deep_all ms)
  too_deep plain d l = within (enter_kept l) (λ _. None)
  too_deep f d l = None

  pub too_deep_items : Items → MemberType → ℕ → Levels → Option Pointer
  too_deep_items no_items f n l = None
  too_deep_items (item d ds) f n l = first_of (below (in_item n) (too_deep f d l)) (too_deep_items ds f (n + 1) l)

  pub too_deep_members : Members → List Row → Levels → Option Pointer
  too_deep_members no_members rows l = None
  too_deep_members (member k d ms) rows l = first_of (too_deep_member k (row_named k rows) (λ f. too_deep f d l)) (too_deep_members ms rows l)

  pub too_deep_all : Members → Levels → Option Pointer
  too_deep_all no_members l = None
  too_deep_all (member k d ms) l = first_of (below (in_member k) (too_deep plain d l)) (too_deep_all ms l)

-- a value in which no other lies, where kept data would have a level left: nothing in it lies too deep
abbrev pub is_shallow : Data → Levels → Bool
is_shallow (array ds) l = false
is_shallow (object ms) l = false
is_shallow d l = nat_lt 0 l.kept
