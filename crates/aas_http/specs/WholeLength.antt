-- How many bytes a request takes whose body isn't whole.
use Rattle.std.specs.Prelude.{◌<◌, ◌≤◌, ℕ, List, ◌++◌, length, Option, Some, None}
use Rattle.aas_http.specs.Steps.{AwaitsHead, AwaitsBody}

-- While there are fewer bytes than these, whatever they are, the body of the first request isn't whole.
abbrev pub AwaitsUpTo : List ℕ → ℕ → Type 0
AwaitsUpTo bytes size = (more : List ℕ) → length (bytes ++ more) < size → AwaitsBody (bytes ++ more)

-- A head has at most 16,384 bytes and a body 4,194,304.
abbrev pub IsWholeLength : List ℕ → Option ℕ → Type 0
IsWholeLength bytes None = AwaitsHead bytes
IsWholeLength bytes (Some size) = (length bytes < size) × (size ≤ 4210688) × AwaitsUpTo bytes size
