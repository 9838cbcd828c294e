-- Laws of the first request.
use Rattle.std.specs.Prelude.{◌≡◌, ◌<◌, ◌+◌, ◌⊎◌, ℕ, List, ◌++◌, length}
use Rattle.aas_http.specs.BodyLength.{body_limit}
use Rattle.aas_http.specs.FirstRequest.{Message, FirstRequest, Nothing, Bad, Whole, IsBlank, IsFirstRequest}
use Rattle.aas_http.specs.Head.{head_limit}
use Rattle.aas_http.specs.Steps.{AwaitsHead, AwaitsBody}

-- Bytes begin with one thing alone.
abbrev pub BeginsWithOne : Type 0
BeginsWithOne = (bytes : List ℕ) (a b : FirstRequest) → IsFirstRequest bytes a → IsFirstRequest bytes b → a ≡ b

-- Where more bytes are needed and none follow, the input begins with nothing, or is bad.
abbrev pub EndsUnfinished : Type 0
EndsUnfinished = (bytes : List ℕ) → AwaitsHead bytes ⊎ AwaitsBody bytes
    → (IsBlank bytes → IsFirstRequest bytes Nothing) × (¬ (IsBlank bytes) → IsFirstRequest bytes Bad)

-- More bytes are needed only while they are fewer than a head and a body may have.
abbrev pub FitsLimits : Type 0
FitsLimits = (bytes : List ℕ) → AwaitsHead bytes ⊎ AwaitsBody bytes → length bytes < head_limit + body_limit

-- A whole request ends by itself: its bytes are the first ones, and whatever follows them, it is the first request.
abbrev pub EndsByItself : Type 0
EndsByItself = (bytes : List ℕ) (message : Message) (rest : List ℕ) → IsFirstRequest bytes (Whole message rest)
    → (front : List ℕ) × (bytes ≡ front ++ rest)
    × ((more : List ℕ) → IsFirstRequest (front ++ more) (Whole message more))
