-- A walk in preorder along the rows of a patch, which counts down the elements before that of the next row.
use denote.Enum.Bare.{sameb}
use Rattle.std.specs.Prelude.{◌≡◌, ℕ, ◌+◌, ◌-◌, ◌≤◌, ◌==◌, ◌&&◌, if◌then◌else◌, List, [], ◌∷◌, drop, Option, Some, None, option_and_then}
use Rattle.aas_model.specs.Payload.{kind_of}
use Rattle.aas_model.specs.declared.element.Element.{Element}
use Rattle.aas_model.specs.declared.patch.PatchRow.{PatchRow}
use Rattle.aas_model.specs.declared.payload.Payload.{Payload}
use Rattle.aas_model_names.specs.contracts.kind.Kind.{the_type}
use Rattle.aas_model_names.specs.declared.kind.Kind.{Kind}
use Rattle.aas_path.specs.Gaps.{first_rank, gap, rises}
use Rattle.aas_path.specs.declared.ahead.Ahead.{Ahead}
use Rattle.aas_path_trees.specs.Patched.{RiseFrom, payload_at, patched, patched_all}

-- the rows that are left, and how many elements come before that of the first of them
pub record Left : Type 0 where
  pub distance : ℕ
  pub rows : List PatchRow

abbrev pub left_of : List PatchRow → Ahead → Left
left_of rows a = record { distance = a.distance; rows = drop a.row rows }

-- at the element of rank 0
abbrev pub at_start : List PatchRow → Left
at_start rows = record { distance = first_rank rows; rows = rows }

-- behind the element of the row r
abbrev pub behind : PatchRow → List PatchRow → Left
behind r rows = record { distance = gap r.rank rows; rows = rows }

abbrev pub one_less : ℕ → List PatchRow → Left
one_less n rows = record { distance = n - 1; rows = rows }

-- ---- one element

-- what is left behind an element of kind x, if no row for it has another kind or is followed by one of no higher rank
abbrev pub met : Kind → ℕ → List PatchRow → Option Left
met x n [] = Some (record { distance = n; rows = [] })
met x n (r ∷ rows) =
    if n == 0 then (if sameb the_type (kind_of r.payload) x && rises r.rank rows then Some (behind r rows) else None)
    else Some (one_less n (r ∷ rows))

abbrev pub met_all : List Kind → Left → Option Left
met_all [] left = Some left
met_all (x ∷ xs) left = option_and_then (met_all xs) (met x left.distance left.rows)

-- no row is left at the end of a walk
abbrev pub Ends : Option Left → Type 0
Ends None = ⊥
Ends (Some left) = left.rows ≡ []

-- what an element's own attributes become, and what is left behind it
abbrev pub taken : Payload → ℕ → List PatchRow → Payload × Left
taken own n [] = (own, record { distance = n; rows = [] })
taken own n (r ∷ rows) = if n == 0 then (r.payload, behind r rows) else (own, one_less n (r ∷ rows))

-- ---- all elements

abbrev pub IsNext : ℕ → ℕ → List PatchRow → Type 0
IsNext k n [] = Unit {0}
IsNext k n (r ∷ rows) = (r.rank ≡ k + n) × RiseFrom r.rank rows

-- at rank k the rows of a patch are left from this rank on
pub record Stands (all : List PatchRow) (k : ℕ) (left : Left) : Type 0 where
  pub same : (j : ℕ) (own : Payload) → k ≤ j → payload_at j left.rows own ≡ payload_at j all own
  pub next : IsNext k left.distance left.rows

-- an element at any rank of any patch becomes the patched one
abbrev pub Patches : Element → Element → Left → Left → Type 0
Patches old new before after =
    (all : List PatchRow) (k : ℕ) → Stands all k before → (new ≡ (patched all old k).0) × Stands all (patched all old k).1 after

abbrev pub PatchesAll : List Element → List Element → Left → Left → Type 0
PatchesAll old new before after =
    (all : List PatchRow) (k : ℕ) → Stands all k before → (new ≡ (patched_all all old k).0) × Stands all (patched_all all old k).1 after
