-- What of the bytes of a client one visit hands over. This profile's own rule.
use Rattle.std.specs.Prelude.{◌≡◌, ◌<◌, ◌≤◌, ◌⊎◌, ℕ, zero, suc, List, [], ◌++◌, length, take, Option, None, Some}
use Rattle.aas_http.specs.FirstRequest.{Message, FirstRequest, Nothing, Bad, TooLarge, NotImplemented}
use Rattle.aas_http.specs.FirstRequest.{Whole, IsFirstRequest}
use Rattle.aas_http.specs.Steps.{AwaitsHead, AwaitsBody}
use Rattle.aas_clients.specs.declared.front.Front.{Front}
use Rattle.aas_clients.specs.declared.front.Front.TheVariants as front

-- The bytes are so many whole requests one behind another, and nothing else.
abbrev pub AreRequests : ℕ → List ℕ → Type 0
AreRequests zero bytes = bytes ≡ []
AreRequests (suc n) bytes =
    (message : Message) × (rest : List ℕ) × IsFirstRequest bytes (Whole message rest) × AreRequests n rest

-- a request is there in part, or nothing is
abbrev pub IsUnfinished : List ℕ → Type 0
IsUnfinished bytes = AwaitsHead bytes ⊎ AwaitsBody bytes

-- Whatever follows, while there are fewer bytes than these no whole request is there.
abbrev pub IsUnfinishedBelow : ℕ → List ℕ → Type 0
IsUnfinishedBelow size bytes = (more : List ℕ) → length (bytes ++ more) < size → IsUnfinished (bytes ++ more)

abbrev pub IsRefusal : FirstRequest → Type 0
IsRefusal Bad = Unit {0}
IsRefusal TooLarge = Unit {0}
IsRefusal NotImplemented = Unit {0}
IsRefusal Nothing = ⊥
IsRefusal (Whole message rest) = ⊥

-- whatever follows, they are refused
abbrev pub AreRefused : List ℕ → Type 0
AreRefused bytes = (first : FirstRequest) × IsRefusal first × ((more : List ℕ) → IsFirstRequest (bytes ++ more) first)

-- so many requests at the front, and at most so many
pub record AreWhole (bytes : List ℕ) (most size requests : ℕ) : Type 0 where
  pub within : size ≤ length bytes
  pub some : 0 < requests
  pub limit : requests ≤ most
  pub whole : AreRequests requests (take size bytes)

abbrev pub IsFront : List ℕ → ℕ → Front → Type 0
IsFront bytes most (front.Awaits size) = (length bytes < size) × IsUnfinishedBelow size bytes
IsFront bytes most (front.Whole size requests) = AreWhole bytes most size requests
IsFront bytes most front.Refused = AreRefused bytes

-- the same of what was known before
abbrev pub IsFrontSoFar : List ℕ → ℕ → Front → Type 0
IsFrontSoFar bytes most (front.Awaits size) = (length bytes < size) × ∥ IsUnfinishedBelow size bytes ∥₁
IsFrontSoFar bytes most (front.Whole size requests) = AreWhole bytes most size requests
IsFrontSoFar bytes most front.Refused = AreRefused bytes

-- a visit has something to hand over, whatever follows: a whole request, or what is refused
abbrev pub IsReady : List ℕ → Type 0
IsReady bytes = ((size : ℕ) × (requests : ℕ) × AreWhole bytes 1 size requests) ⊎ AreRefused bytes

-- below how many bytes no request is whole, where none is and something is there
abbrev pub IsAwaited : List ℕ → Option ℕ → Type 0
IsAwaited bytes None = IsReady bytes
IsAwaited bytes (Some size) = (length bytes < size) × ∥ IsUnfinishedBelow size bytes ∥₁
