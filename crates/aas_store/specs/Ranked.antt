-- An element in a list of elements in preorder.
use Rattle.std.specs.Prelude.{◌≡◌, ℕ, ◌+◌, ◌≤◌, List, length, slice_get, Some}
use Rattle.aas_model.specs.declared.element.Element.{Element}
use Rattle.aas_store.specs.Spots.{elements}

-- e has the rank n among es, with room for all below it
abbrev pub IsRanked : List Element → ℕ → Element → Type 0
IsRanked es n e = (slice_get es n ≡ Some e) × (n + length (elements e) ≤ length es)
