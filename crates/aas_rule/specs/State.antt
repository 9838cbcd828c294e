-- What a machine holds, and what a stop leaves of it. This profile's own rule.
use Rattle.std.specs.Prelude.{◌≡◌, ◌≤◌, ℕ, Bool, false, List, []}
use Rattle.aas_outside.specs.Faults.{Rose}
use Rattle.aas_outside.specs.Moments.{InTurn, IsSettled, Passes}
use Rattle.aas_rule.specs.Rule.{Repository, Room}

-- The documents; which payloads are kept so far; the time; and what a stop at a moment up to now may have left.
pub record State (D I : Type 0) : Type 1 where
  pub documents : D
  pub kept : List (List ℕ) → Type 0
  pub moment : ℕ
  pub left_at : ℕ → I → Type 0

-- These payloads are kept, and a stop now leaves an image of them alone.
abbrev pub IsSettledState : {D I : Type 0} → (I → List (List ℕ) → Type 0) → State D I → List (List ℕ) → Type 0
IsSettledState stands_for state records = IsSettled stands_for state.kept state.moment state.left_at records

-- Time goes on from one state to another, and what a stop may have left before stays.
abbrev pub PassesTo : {D I : Type 0} → State D I → State D I → Type 0
PassesTo old new = Passes old.moment old.left_at new.moment new.left_at

-- the repository of a machine that keeps these payloads
abbrev pub repository_of : {D I : Type 0} → State D I → List (List ℕ) → Repository D
repository_of state records = record { documents = state.documents; records = records }

-- what holds of a settled machine's repository, whichever payloads it keeps
abbrev pub WhereSettled : {D I : Type 0} → (I → List (List ℕ) → Type 0)
    → State D I → (Repository D → Type 0) → Type 0
WhereSettled stands_for state P =
    (records : List (List ℕ)) → IsSettledState stands_for state records → P (repository_of state records)

-- What a machine tells: what it holds, its keeper's rule for room and count of failed calls, and whether it has
-- stopped, since its keeper failed.
pub record MachineState (D I : Type 0) : Type 1 where
  pub held : State D I
  pub room : Room
  -- it stands still at 2^64 - 1
  pub faults : ℕ
  pub stopped : Bool

-- What each call on a machine leaves. The rule for room stays, time goes on, and what a stop may have left stays. Where
-- the keeper failed its count of faults has risen; else that is as it was, and the machine hasn't stopped.
pub record GoesOn {D I : Type 0} (failed : Type 0) (old new : MachineState D I) : Type 0 where
  pub room : new.room ≡ old.room
  pub past : PassesTo old.held new.held
  pub stopped : ¬ failed → new.stopped ≡ false
  pub later : old.faults ≤ new.faults
  pub calm : ¬ failed → new.faults ≡ old.faults
  pub fault : failed → Rose old.faults new.faults

-- The machine holds this repository. Since a moment these payloads were kept one by one behind the records.
pub record Holds {D I : Type 0} (stands_for : I → List (List ℕ) → Type 0)
    (records payloads : List (List ℕ)) (repository : Repository D) (from : ℕ) (now : State D I) : Type 0 where
  pub documents : now.documents ≡ repository.documents
  pub kept : now.kept repository.records
  pub in_turn : InTurn stands_for now.left_at from now.moment records payloads []

-- The machine's keeper failed. Its documents are these. Since a moment these payloads were kept one by one behind the
-- records, and then the failed ones, of which there is one at most, were kept or not.
pub record IsFaulted {D I : Type 0} (stands_for : I → List (List ℕ) → Type 0)
    (records payloads failed : List (List ℕ)) (d : D) (from : ℕ) (now : State D I) : Type 0 where
  pub documents : now.documents ≡ d
  pub in_turn : InTurn stands_for now.left_at from now.moment records payloads failed
