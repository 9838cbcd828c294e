-- What a disk tells, and what its calls do to what reads give and to what a stop may leave. This profile's own rule.
use Rattle.std.specs.Prelude.{◌≡◌, ℕ, ◌+◌, ◌≤◌, min, max, List, ◌++◌, length, take, drop, Option, Some, None, Result}
use Rattle.std.specs.Prelude.{OnOk, IfSome}
use Rattle.aas_outside.specs.Faults.{HasCause, Rose}
use Rattle.aas_outside.specs.Moments.{Passes}
use Rattle.aas_outside_disk.specs.declared.part.Part.{Part}
use Rattle.aas_outside_disk.specs.Files.{Files, file, SameOthers}

pub record DiskState : Type 1 where
  -- what reads give of each file, where the disk tells it
  pub seen : Option Files
  -- its clock
  pub moment : ℕ
  -- what a stop at a moment up to now may have left
  pub left_at : ℕ → Files → Type 0
  -- how many calls have failed; it stands still at 2^64 - 1
  pub faults : ℕ

-- a stop now may leave this
abbrev pub MayLeave : DiskState → Files → Type 0
MayLeave disk image = disk.left_at disk.moment image

-- time goes on, and what a stop may have left stays
abbrev pub PassesOn : DiskState → DiskState → Type 0
PassesOn old new = Passes old.moment old.left_at new.moment new.left_at

-- Time goes on, what a stop may have left stays, and the count of faults never falls.
pub record IsLater (old new : DiskState) : Type 0 where
  pub past : PassesOn old new
  pub faults : old.faults ≤ new.faults

-- Time goes on, and what a stop may have left stays. The count of faults rises where the call fails, and else is as it
-- was.
pub record IsDiskCall {T E : Type 0} (old new : DiskState) (result : Result T E) : Type 0 where
  pub past : PassesOn old new
  pub cause : HasCause old.faults new.faults result
  pub calm : OnOk result (new.faults ≡ old.faults)

-- The same of several calls, where this says whether one failed.
pub record AreDiskCalls (failed : Type 0) (old new : DiskState) : Type 0 where
  pub past : PassesOn old new
  pub later : old.faults ≤ new.faults
  pub rose : failed → Rose old.faults new.faults

-- the bytes stand at this place, and all else is as it was
abbrev pub written : ℕ → List ℕ → List ℕ → List ℕ
written at bytes old = take at old ++ (bytes ++ drop (at + length bytes) old)

-- all but n bytes at this place is as it was
pub record WritesAt (at n : ℕ) (old new : List ℕ) : Type 0 where
  pub before : take at new ≡ take at old
  pub after : drop (at + n) new ≡ drop (at + n) old
  pub no_shorter : length old ≤ length new
  pub no_longer : length new ≤ max (length old) (at + n)

-- what is told stays told, with a fact on both
abbrev pub Becomes : Option Files → Option Files → (Files → Files → Type 0) → Type 0
Becomes None new P = new ≡ None
Becomes (Some a) None P = ⊥
Becomes (Some a) (Some b) P = P a b

-- after a write, Ok or Failed
abbrev pub Writes : {E : Type 0} → Part → ℕ → List ℕ → Option Files → Option Files → Result (Unit {0}) E → Type 0
Writes part at bytes old new result = Becomes old new (λ a b.
    SameOthers part a b × WritesAt at (length bytes) (file part a) (file part b)
    × OnOk result (file part b ≡ written at bytes (file part a)))

-- each image of this file has at least so many bytes
abbrev pub HasAtLeast : Part → ℕ → (Files → Type 0) → Type 0
HasAtLeast part n images = (c : Files) → images c → n ≤ length (file part c)

-- n bytes at this place, and all past the first `end` bytes, may be any; the rest is as it was
pub record Torn (end at n : ℕ) (old new : List ℕ) : Type 0 where
  pub before : take (min at end) new ≡ take (min at end) old
  pub after : drop (at + n) (take end new) ≡ drop (at + n) (take end old)
  pub no_shorter : end ≤ length new

-- Each image is an old one after a torn write: the range and all past the old end hold any bytes, and all else stays.
abbrev pub Tears : Part → ℕ → ℕ → (Files → Type 0) → (Files → Type 0) → Type 0
Tears part at n old new = (end : ℕ) → HasAtLeast part end old → (c : Files) → new c
    → (d : Files) × old d × SameOthers part d c × Torn end at n (file part d) (file part c)

abbrev pub AddsNone : (Files → Type 0) → (Files → Type 0) → Type 0
AddsNone old new = (c : Files) → new c → old c

-- each image holds of this file what reads give
abbrev pub HoldsWhatIsRead : Part → Option Files → (Files → Type 0) → Type 0
HoldsWhatIsRead part seen images = IfSome seen (λ files. (c : Files) → images c → file part c ≡ file part files)

-- at each moment of a call a stop leaves what one before it may have left, after such a change
abbrev pub Meanwhile : (before now : ℕ)
    → (ℕ → Files → Type 0) → (ℕ → Files → Type 0) → ((Files → Type 0) → (Files → Type 0) → Type 0) → Type 0
Meanwhile before now old new Change = (t : ℕ) → before ≤ t → t ≤ now → Change (old before) (new t)

-- the same from one state of a disk to another
abbrev pub Changes : (old new : DiskState) → ((Files → Type 0) → (Files → Type 0) → Type 0) → Type 0
Changes old new Change = Meanwhile old.moment new.moment old.left_at new.left_at Change

-- What reads give is as before, and no image is added to those that a stop may leave.
pub record OnlyReads (old new : DiskState) : Type 0 where
  pub seen : new.seen ≡ old.seen
  pub images : Changes old new AddsNone
  pub past : PassesOn old new

-- Several reads, where this says whether one failed: then the count of faults has risen.
pub record AreReads (failed : Type 0) (old new : DiskState) : Type 0 where
  pub only : OnlyReads old new
  pub later : old.faults ≤ new.faults
  pub rose : failed → Rose old.faults new.faults
