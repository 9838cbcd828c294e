-- Tests by number.
use Rattle.std.specs.Prelude.{ℕ, Bool, not, List, map, Option}
use Rattle.std.specs.List.{find}
use Rattle.std.specs.Option.{option_map}
use Rattle.aas_reference.specs.Rules.{Rule}

-- the number of the first test that fails
abbrev pub first_failed : List (ℕ × Bool) → Option ℕ
first_failed tests = option_map (λ t. t.0) (find (λ t. not t.1) tests)

-- a table as tests
abbrev pub tests : {S : Type 0} → (S → Bool) → List (Rule S) → List (ℕ × Bool)
tests holds rs = map (λ r. (r.number, holds r.sentence)) rs
