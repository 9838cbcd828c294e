-- Places in the list of a map's entries, which are in the order of their identifiers.
use Rattle.std.specs.Prelude.{◌≡◌, ℕ, ◌<◌, ◌≤◌, List, length, slice_get, Some}
use Rattle.std.specs.Ordering.{nat_cmp}
use Rattle.std.specs.declared.cmp.Ordering.TheVariants.{Less}
use Rattle.std.specs.Cmp.Lexicographic.{slice_cmp}
use Rattle.std.specs.FinMap as map

-- the entry in a place has the identifier
abbrev pub IsAt : {D : Type 0} → map.FinMap (slice_cmp nat_cmp) D → List ℕ → ℕ → Type 0
IsAt {D} m id place = (d : D) × (slice_get (map.entries m) place ≡ Some (id, d))

-- identifiers before a place are below another, and those from there on above it
pub record IsGapFor {D : Type 0} (m : map.FinMap (slice_cmp nat_cmp) D) (id : List ℕ) (place : ℕ) : Type 0 where
  pub within : place ≤ length (map.entries m)
  pub below : (i : ℕ) (e : List ℕ × D) → i < place → slice_get (map.entries m) i ≡ Some e → slice_cmp nat_cmp e.0 id ≡ Less
  pub above : (i : ℕ) (e : List ℕ × D) → place ≤ i → slice_get (map.entries m) i ≡ Some e → slice_cmp nat_cmp id e.0 ≡ Less
