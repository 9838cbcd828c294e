-- What was received on a link.
use Rattle.std.specs.Prelude.{◌≡◌, ◌<◌, ◌≤◌, ◌⊎◌, ℕ, Bool, true, false, List, ◌++◌, length, Option}
use Rattle.std.specs.Io.KnownBytes.{prepend_known, IsAtEnd}
use Rattle.aas_http.specs.Steps.{AwaitsHead, AwaitsBody}

-- the most bytes of a request, head and body
abbrev pub intake_size : ℕ
intake_size = 4210688

-- the bytes that were received and not yet taken as requests, and how many more have room behind them
pub record Received : Type 0 where
  pub unread : List ℕ
  pub room : ℕ

-- a piece of what was left on the link was received behind the others
pub record Receives (old new : List ℕ) (left_old left_new : Option (List ℕ)) : Type 0 where
  pub piece : List ℕ
  pub unread : new ≡ old ++ piece
  pub left : left_old ≡ prepend_known piece left_new

-- a piece of so many bytes, which is empty only where nothing is left
pub record ReceivesPiece (count : ℕ) (old new : List ℕ) (left_old left_new : Option (List ℕ)) : Type 0 where
  pub receives : Receives old new left_old left_new
  pub size : length receives.piece ≡ count
  pub at_end : count ≡ 0 → IsAtEnd left_new

-- there are so many bytes now, or nothing is left
abbrev pub ReceivesUntil : ℕ → List ℕ → List ℕ → Option (List ℕ) → Option (List ℕ) → Bool → Type 0
ReceivesUntil count old new left_old left_new true = Receives old new left_old left_new × (count ≤ length new)
ReceivesUntil count old new left_old left_new false =
    Receives old new left_old left_new × (length new < count) × IsAtEnd left_new

-- more of a request that isn't whole was received, or nothing is left and it still isn't whole
abbrev pub ReceivesMore : List ℕ → List ℕ → Option (List ℕ) → Option (List ℕ) → Bool → Type 0
ReceivesMore old new left_old left_new true = Receives old new left_old left_new × (length old < length new)
ReceivesMore old new left_old left_new false =
    Receives old new left_old left_new × IsAtEnd left_new × (AwaitsHead new ⊎ AwaitsBody new)
