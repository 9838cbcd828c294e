-- Where a walk over the rows of an element stands, and what it has still to put.
use Rattle.std.specs.Prelude.{◌≡◌, ℕ, suc, ◌+◌, ◌*◌, ◌<◌, ◌≤◌, nat_lt, ◌&&◌, not, Bool, true, false, List, [], ◌∷◌}
use Rattle.std.specs.Prelude.{◌++◌, length, drop, slice_get, if◌then◌else◌, Option, Some}
use Rattle.std.specs.List.{list_any}
use Rattle.aas_out.specs.Adds.{Adds}
use Rattle.aas_out.specs.Told.{Told}
use Rattle.aas_out.specs.declared.pouring.Pouring.{Pouring}
use Rattle.aas_rows.specs.Rows.{Line}
use Rattle.aas_model.specs.declared.payload.Payload.{Payload}
use Rattle.aas_json_write_members.specs.Members.{all_stops, has_stop, opening, closing, stops_behind, stops_from}
use Rattle.aas_json_write_members.specs.Members.{stops_left}
use Rattle.aas_json_write_members.specs.Script.{script, element_text, at_stop, more_text}
use Rattle.aas_json_write_members.specs.declared.members.Show.{Show}
use Rattle.aas_json_write_members.specs.declared.stops.Stop.{Stop}
use Rattle.aas_json_write_members.specs.declared.stops.Stop.TheVariants as stop
use Rattle.aas_json_write_rows.specs.Poured.{voices, kids_at, if_row}
use Rattle.aas_json_write_rows.specs.declared.walk.OpenElement.{OpenElement}
use Rattle.aas_json_write_rows.specs.declared.walk.Walk.{Walk}
use Rattle.aas_json_write_rows.specs.declared.children.Sought.{Sought}
use Rattle.aas_json_write_rows.specs.declared.children.Sought.TheVariants as sought

-- ---- looking for children

-- whether an element of this kind has children at some stop
abbrev pub has_stops : Payload → Bool
has_stops p = list_any (λ s. has_stop s p) all_stops

-- nothing is shown below an element, whatever stands there
abbrev pub is_childless : Show → Line → Bool
is_childless w r = not (nat_lt r.level w.cut && has_stops r.payload)

-- the rows from a rank on up to another all stand deeper than the level k
pub record AreBelow (rows : List Line) (k from to : ℕ) : Type 0 where
  pub order : from ≤ to
  pub deep : (n : ℕ) (c : Line) → from ≤ n → n < to → slice_get rows n ≡ Some c → k < c.level

-- The first child from a rank on that is shown at a stop of the element whose row is r,
-- or the rank up to which there is none.
unfoldable pub IsFirst : Show → List Line → Line → Stop → ℕ → Sought → Type 0
IsFirst w rows r s from (sought.End to) =
    (at_stop w r s (voices w r.level (drop from rows)) ≡ []) × AreBelow rows r.level from to
IsFirst w rows r s from (sought.Child m) =
    (c : Line) × (slice_get rows m ≡ Some c) × (c.level ≡ r.level + 1) × AreBelow rows r.level from m
    × (at_stop w r s (voices w r.level (drop from rows))
    ≡ (opening s ++ (element_text w c (kids_at w rows c m) ++ closing s))
    ∷ at_stop w r s (voices w r.level (drop (m + 1) rows)))

-- ---- what is left

-- what follows the child of rank m of an open element
abbrev pub behind : Show → List Line → OpenElement → ℕ → List ℕ → List ℕ
behind w rows f m rest = if_row (slice_get rows f.rank) (λ r.
    closing f.stop
    ++ (more_text (at_stop w r f.stop (voices w r.level (drop (m + 1) rows)))
    ++ (script w r (kids_at w rows r f.rank) (stops_behind f.stop) true ++ rest)))

-- what follows the element of rank n, below these open elements, the outermost first
abbrev pub up : Show → List Line → (ℕ → List ℕ) → List OpenElement → ℕ → List ℕ
up w rows k [] n = k n
up w rows k (f ∷ fs) n = up w rows (λ m. behind w rows f m (k f.rank)) fs n

-- what is left to put: what is left of the element of rank n before these last stops, and what follows it
abbrev pub remaining : Show → List Line → List OpenElement → ℕ → List Stop → Bool → List ℕ
remaining w rows fs n ss later =
    if_row (slice_get rows n) (λ r. script w r (kids_at w rows r n) ss later ++ up w rows (λ m. []) fs n)

-- what a walk has still to put
abbrev pub walk_left : Show → List Line → Walk → List ℕ
walk_left w rows walk =
    if walk.done then [] else remaining w rows walk.open.items walk.rank (stops_from walk.next) walk.later

-- ---- where a walk stands

-- the rank of the outermost of these open elements, or of the one below them
abbrev pub first_rank : List OpenElement → ℕ → ℕ
first_rank [] n = n
first_rank (f ∷ fs) n = f.rank

-- An open element stands deeper than there are open ones above it, and so does the element of rank n. The rows from an
-- open element to the next one stand below it.
abbrev pub IsNested : List Line → ℕ → List OpenElement → ℕ → Type 0
IsNested rows d [] n = (r : Line) → slice_get rows n ≡ Some r → d < r.level
IsNested rows d (f ∷ fs) n =
    ((r : Line) → slice_get rows f.rank ≡ Some r
    → (d < r.level) × (f.rank < first_rank fs n) × AreBelow rows r.level (f.rank + 1) (first_rank fs n + 1))
    × IsNested rows (d + 1) fs n

-- whether a part of an element was put, before which no stop stands
abbrev pub is_begun : Option Stop → Bool
is_begun (Some stop.Annotations) = false
is_begun next = true

pub record IsWalk (rows : List Line) (walk : Walk) : Type 0 where
  pub nested : IsNested rows 0 walk.open.items walk.rank
  -- the rows below the current element that were passed, once a part of it was put
  pub passed : is_begun walk.next ≡ true → (r : Line)
      → slice_get rows walk.rank ≡ Some r → AreBelow rows r.level (walk.rank + 1) walk.after

-- A piece was put of a text of which the walk has the rest still to put.
pub record Poured {Kept : Type 0} (w : Show) (rows : List Line) (whole : List ℕ)
    (new : Walk) (so_far after : Pouring) (told told_after : Told Kept) : Type 0 where
  pub piece : List ℕ
  pub parts : whole ≡ piece ++ walk_left w rows new
  pub adds : Adds so_far after told told_after piece
  pub kept : new.done ≡ false → IsWalk rows new

-- the work that is left while a walk goes on: less with each step
abbrev pub work : Show → List Line → Walk → ℕ
work w rows walk = 8 * length (walk_left w rows walk) + stops_left walk.next

-- the same, and none at the end
abbrev pub turns : Show → List Line → Walk → ℕ
turns w rows walk = if walk.done then 0 else suc (work w rows walk)
