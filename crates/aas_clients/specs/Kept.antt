-- What is kept of a client's input, what a visit hands over, and how long it may take. This profile's own rule.
use Rattle.std.specs.Prelude.{◌≡◌, ◌≤◌, ◌<◌, ◌+◌, ◌-◌, ◌*◌, ◌/◌, ◌^◌, ◌⊎◌, ℕ, min, List, [], ◌++◌, length, take, drop}
use Rattle.std.specs.Prelude.{Bool, true, false, Option, None, Some}
use Rattle.aas_clients.specs.Fronts.{AreRequests, AreRefused, IsUnfinished, IsUnfinishedBelow}

-- Behind so many bytes of all that came, these lie here. So what was handed over and what lies here is
-- what came.
abbrev pub IsKept : ℕ → List ℕ → List ℕ → Type 0
IsKept handed inbox all = (handed ≤ length all) × (inbox ≡ drop handed all)

-- One visit hands over a front: so many whole requests and nothing else; or all that lies here, no
-- request being whole, and then nothing follows: because it is refused, or because the input has ended.
pub record HandsOver (inbox : List ℕ) (has_ended : Bool) (bytes : List ℕ)
    (requests : ℕ) (is_last : Bool) (inbox_now : List ℕ) : Type 0 where
  pub joined : inbox ≡ bytes ++ inbox_now
  pub limit : requests ≤ 64
  pub whole : is_last ≡ false → AreRequests requests bytes
  pub last : is_last ≡ true
      → (requests ≡ 0) × (inbox_now ≡ []) × (AreRefused inbox ⊎ ((has_ended ≡ true) × ∥ IsUnfinished inbox ∥₁))

-- What a visit is to hand over: so many of the bytes, with the same said of them.
pub record IsPart (inbox : List ℕ) (has_ended : Bool) (count requests : ℕ) (is_last : Bool) : Type 0 where
  pub within : count ≤ length inbox
  pub limit : requests ≤ 64
  pub whole : is_last ≡ false → AreRequests requests (take count inbox)
  pub last : is_last ≡ true
      → (requests ≡ 0) × (count ≡ length inbox) × (AreRefused inbox ⊎ ((has_ended ≡ true) × ∥ IsUnfinished inbox ∥₁))

-- A minute, and a second for each 16 KiB, in milliseconds.
abbrev pub time_for : ℕ → ℕ
time_for size = 60000 + size / 16384 * 1000

-- The last moment for the rest of a request of which the first bytes are there since so long: its time
-- goes by what its head declares. The clock stands still at 2^64 - 1.
abbrev pub IsDeadline : List ℕ → ℕ → ℕ → Type 0
IsDeadline inbox since until =
    (size : ℕ) × (length inbox < size) × ∥ IsUnfinishedBelow size inbox ∥₁
    × (until ≡ min (since + time_for size) (2 ^ 64 - 1))

-- Since when a request is read, at a client that was left unread for a while: that doesn't count.
abbrev pub since_when : ℕ → Option ℕ → ℕ → ℕ
since_when since None now = since
since_when since (Some unread) now = min (since + (now - unread)) (2 ^ 64 - 1)

-- how many bytes of a client may lie here
abbrev pub limit_of : Bool → ℕ
limit_of true = 4210688
limit_of false = 32768
