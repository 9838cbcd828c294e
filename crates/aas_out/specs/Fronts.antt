-- Bytes that begin with others. This profile's own words.
use Rattle.std.specs.Prelude.{◌≡◌, ◌<◌, ◌≤◌, ℕ, List, slice_index}

-- at the places from one up to another both have the same bytes
abbrev pub SameBetween : List ℕ → List ℕ → ℕ → ℕ → Type 0
SameBetween bytes piece from to = (k : ℕ) → from ≤ k → k < to → slice_index bytes k ≡ slice_index piece k
