-- The lowest of some numbers, of which each place may have one. This profile's own rule.
use Rattle.std.specs.Prelude.{◌≡◌, ◌≤◌, ◌<◌, ◌⊎◌, ℕ, Option, Some, None}

-- it was found, and has that number
abbrev pub IsFound : Option (ℕ × ℕ) → (ℕ → Option ℕ) → Type 0
IsFound None number_at = Unit {0}
IsFound (Some best) number_at = number_at best.0 ≡ Some best.1

-- what was found isn't above that number
abbrev pub IsNoHigher : Option (ℕ × ℕ) → ℕ → Type 0
IsNoHigher None number = ⊥
IsNoHigher (Some best) number = best.1 ≤ number

-- among the first n places it has the lowest number, or none has any
abbrev pub IsEarliest : Option (ℕ × ℕ) → (ℕ → Option ℕ) → ℕ → Type 0
IsEarliest found number_at n =
    IsFound found number_at × ((k : ℕ) → k < n → (m : ℕ) → number_at k ≡ Some m → IsNoHigher found m)

-- the one at this place, where its number is lower
abbrev pub IsBetter : Option (ℕ × ℕ) → ℕ → Option ℕ → Option (ℕ × ℕ) → Type 0
IsBetter found place None result = result ≡ found
IsBetter None place (Some number) result = result ≡ Some (place, number)
IsBetter (Some best) place (Some number) result =
    ((number < best.1) × (result ≡ Some (place, number))) ⊎ ((best.1 ≤ number) × (result ≡ Some best))
