-- A keeper in memory, as its callers see it. This profile's own rule.
use Rattle.std.specs.Prelude.{◌≡◌, ℕ, ◌+◌, ◌^◌, Bool, ◌&&◌, nat_lt, nat_le, List, length, take, drop, [], ◌∷◌, sum_by}
use Rattle.std.specs.Prelude.{Result, MatchResult}
use Rattle.aas_outside.specs.Faults.{one_more}
use Rattle.aas_outside.specs.Keeper.{KeeperState}
use Rattle.aas_outside.specs.MemCalls.{MemCallsState, called}

pub record MemKeeperState : Type 0 where
  pub payloads : List (List ℕ)
  -- how many bytes the frames may have in all
  pub capacity : ℕ
  pub calls : MemCallsState
  -- how many calls have failed
  pub faults : ℕ

-- a frame's bytes, by the length of its payload
abbrev pub frame_size : ℕ → ℕ
frame_size n = n + 5

-- the bytes of the frames of these payloads
abbrev pub frames_size : List (List ℕ) → ℕ
frames_size payloads = sum_by (λ payload. frame_size (length payload)) payloads

-- there is room behind these payloads for one of n bytes
abbrev pub has_room_behind : ℕ → List (List ℕ) → ℕ → Bool
has_room_behind capacity payloads n = nat_lt n (2 ^ 32) && nat_le (frames_size payloads + frame_size n) capacity

-- a stop leaves the payloads that were kept at the moment, the clock being their number
abbrev pub kept_at : MemKeeperState → ℕ → List (List ℕ) → Type 0
kept_at keeper time image = image ≡ take time keeper.payloads

abbrev pub is_all : MemKeeperState → List (List ℕ) → Type 0
is_all keeper payloads = payloads ≡ keeper.payloads

abbrev pub clock : MemKeeperState → ℕ
clock keeper = length keeper.payloads

-- what it tells
abbrev pub keeper_state : MemKeeperState → KeeperState (List (List ℕ))
keeper_state keeper = record {
  kept = is_all keeper;
  room_behind = has_room_behind keeper.capacity;
  has_room = has_room_behind keeper.capacity keeper.payloads;
  moment = clock keeper;
  left_at = kept_at keeper;
  faults = keeper.faults;
}

-- bytes cut into pieces of these lengths, one after another
abbrev pub pieces : List ℕ → List ℕ → List (List ℕ)
pieces [] bytes = []
pieces (n ∷ lengths) bytes = take n bytes ∷ pieces lengths (drop n bytes)

-- A `keep` was counted, as a fault where it failed.
pub record IsKeepCall {T E : Type 0} (old new : MemKeeperState) (result : Result T E) : Type 0 where
  pub calls : new.calls ≡ called old.calls
  pub faults : MatchResult result (λ _. new.faults ≡ old.faults) (λ _. new.faults ≡ one_more old.faults)
  pub capacity : new.capacity ≡ old.capacity
