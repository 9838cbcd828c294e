-- The fields of a payload, behind one another. This profile's own rule.
use Rattle.std.specs.Prelude.{◌≡◌, ◌<◌, ◌^◌, List, ◌++◌, length, ℕ}
use Rattle.aas_command.specs.Commands.{field}

-- some bytes begin with a field of this content, behind which there is the rest
pub record Begins (bytes content rest : List ℕ) : Type 0 where
  pub short : length content < 2 ^ 32
  pub bytes_are : bytes ≡ field content ++ rest

-- they end within their first field
abbrev pub IsCut : List ℕ → Type 0
IsCut bytes = (content rest : List ℕ) → ¬ (Begins bytes content rest)

-- they end within their first field, or it isn't of a type
abbrev pub LacksField : (List ℕ → Type 0) → List ℕ → Type 0
LacksField HasType bytes = (content rest : List ℕ) → Begins bytes content rest → ¬ (HasType content)
