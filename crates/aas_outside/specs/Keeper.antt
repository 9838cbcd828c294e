-- What a keeper of payloads tells, and what a call that keeps one does. This profile's own rule.
use Rattle.std.specs.Prelude.{◌≡◌, ℕ, Bool, List, [], ◌∷◌, ◌++◌, Result, MatchResult, OnOk}
use Rattle.aas_outside.specs.Faults.{HasCause}
use Rattle.aas_outside.specs.Moments.{InTurn, IsSettled, Passes}

pub record KeeperState (I : Type 0) : Type 1 where
  -- These payloads are kept so far. A keeper that doesn't tell them says so of none.
  pub kept : List (List ℕ) → Type 0
  -- whether there is room behind these payloads for one of so many bytes
  pub room_behind : List (List ℕ) → ℕ → Bool
  -- whether there is room now for a payload of so many bytes
  pub has_room : ℕ → Bool
  -- its clock
  pub moment : ℕ
  -- what a stop at a moment up to now may have left
  pub left_at : ℕ → I → Type 0
  -- how many calls have failed; it stands still at 2^64 - 1
  pub faults : ℕ

-- These payloads are kept, and a stop now leaves an image of them alone.
abbrev pub IsSettledKeeper : {I : Type 0}
    → (I → List (List ℕ) → Type 0) → KeeperState I → List (List ℕ) → Type 0
IsSettledKeeper stands_for keeper payloads = IsSettled stands_for keeper.kept keeper.moment keeper.left_at payloads

-- At Ok the payload is kept behind the others.
abbrev pub KeepsBehind : {I T E : Type 0} → (old new : KeeperState I) → List ℕ → Result T E → Type 0
KeepsBehind old new payload result =
    (payloads : List (List ℕ)) → old.kept payloads → OnOk result (new.kept (payloads ++ payload ∷ []))

-- A call on a settled keeper adds the payload in turn. Where it fails a stop may leave it or not.
abbrev pub KeepsInTurn : {I T E : Type 0}
    → (I → List (List ℕ) → Type 0) → (old new : KeeperState I) → List ℕ → Result T E → Type 0
KeepsInTurn stands_for old new payload result =
    (payloads : List (List ℕ)) → IsSettledKeeper stands_for old payloads → MatchResult result
    (λ _. InTurn stands_for new.left_at old.moment new.moment payloads (payload ∷ []) [])
    (λ _. InTurn stands_for new.left_at old.moment new.moment payloads [] (payload ∷ []))

-- Time goes on, and what a stop may have left stays. The rule for room stays. The count of faults rises where the call
-- fails, and else is as it was.
pub record IsKeeperCall {I T E : Type 0} (old new : KeeperState I) (result : Result T E) : Type 0 where
  pub past : Passes old.moment old.left_at new.moment new.left_at
  pub room : new.room_behind ≡ old.room_behind
  pub cause : HasCause old.faults new.faults result
  pub calm : OnOk result (new.faults ≡ old.faults)
