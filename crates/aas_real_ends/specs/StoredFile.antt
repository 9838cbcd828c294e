-- What a file tells of the calls on it. This profile's own rule.
use Rattle.std.specs.Prelude.{◌≡◌, ◌≤◌, ℕ, List, length, take, drop, Option, Some, IfSome}
use Rattle.std.specs.Option.{ForSome}
use Rattle.aas_outside_disk.specs.FileState.{FileState, after_write, settled}

-- it was opened by this name
abbrev pub HasName : Option (List ℕ) → List ℕ → Type 0
HasName told name = ForSome told (λ it. it ≡ name)

-- reads give so many bytes
abbrev pub HasLength : Option FileState → ℕ → Type 0
HasLength told count = IfSome told (λ s. count ≡ length s.seen)

-- reads give these bytes at a place
abbrev pub Gives : Option FileState → ℕ → List ℕ → Type 0
Gives told at bytes = IfSome told (λ s. bytes ≡ take (length bytes) (drop at s.seen))

-- these bytes were written at a place, which wasn't behind the end
abbrev pub IsWritten : ℕ → List ℕ → Option FileState → Option FileState → Type 0
IsWritten at bytes old new = IfSome old (λ s. at ≤ length s.seen → new ≡ Some (after_write at bytes s))

-- a stop leaves what reads give
abbrev pub IsSynced : Option FileState → Option FileState → Type 0
IsSynced old new = IfSome old (λ s. new ≡ Some (settled s.seen))
