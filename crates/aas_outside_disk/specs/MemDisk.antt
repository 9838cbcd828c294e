-- A disk in memory, as its callers see it. This profile's own rule.
use Rattle.std.specs.Prelude.{◌≡◌, ◌⊎◌, ℕ, ◌+◌, ◌*◌, ◌<◌, ◌≤◌, Bool, not, ◌&&◌, nat_le, nat_lt, List, [], ◌++◌, length}
use Rattle.std.specs.Prelude.{take, Result, MatchResult, Some}
use Rattle.aas_outside.specs.Faults.{one_more}
use Rattle.aas_outside.specs.MemCalls.{MemCallsState, called, IsNextFailing}
use Rattle.aas_outside_disk.specs.declared.crash.Crash.{Crash}
use Rattle.aas_outside_disk.specs.declared.part.Part.{Part}
use Rattle.aas_outside_disk.specs.Disk.{DiskState}
use Rattle.aas_outside_disk.specs.Files.{Files, file, files_of}
use Rattle.aas_outside_disk.specs.FileState.{Step, FileState, file_after, IsLeft, crash_of}
use Rattle.aas_outside_disk.specs.MemRecord.{MemRecordState, has_room_for_bytes, has_room_for_step}

pub record MemDiskState : Type 0 where
  -- what its files began with
  pub base : Files
  -- the writes and syncs that were made, the first of them first
  pub steps : List Step
  -- how many bytes each file may have
  pub capacity : ℕ
  pub calls : MemCallsState
  -- the number of the call from which on each one fails, or 0
  pub stop : ℕ
  -- how many calls have failed
  pub faults : ℕ

-- a disk that was just made
abbrev pub new_disk : Files → ℕ → List ℕ → ℕ → MemDiskState
new_disk base capacity fails stop =
    record {
      base = base;
      steps = [];
      capacity = capacity;
      calls = record { fails = fails; made = 0 };
      stop = stop;
      faults = 0;
    }

-- each file after these steps
abbrev pub after_steps : Files → List Step → Part → FileState
after_steps base steps part = file_after part (file part base) steps

abbrev pub now : MemDiskState → Part → FileState
now disk = after_steps disk.base disk.steps

abbrev pub seen_files : MemDiskState → Files
seen_files disk = files_of (λ part. (now disk part).seen)

-- the clock is the number of steps
abbrev pub clock : MemDiskState → ℕ
clock disk = length disk.steps

abbrev pub AreLeft : (Part → FileState) → Files → Type 0
AreLeft states files = (part : Part) → IsLeft (states part) (file part files)

-- what a stop may leave after so many steps
abbrev pub disk_left_at : MemDiskState → ℕ → Files → Type 0
disk_left_at disk time files = (time ≤ clock disk) × AreLeft (after_steps disk.base (take time disk.steps)) files

abbrev pub crash_files : Crash → MemDiskState → Files
crash_files choice disk = files_of (λ part. crash_of choice (now disk part))

-- what it tells
abbrev pub disk_state : MemDiskState → DiskState
disk_state disk =
    record { seen = Some (seen_files disk); moment = clock disk; left_at = disk_left_at disk; faults = disk.faults }

-- the number of the next call, the first being 1
abbrev pub next_call : MemDiskState → ℕ
next_call disk = one_more disk.calls.made

-- the next call comes after the one at which the disk stops
abbrev pub is_past_stop : MemDiskState → Bool
is_past_stop disk = nat_lt 0 disk.stop && nat_lt disk.stop (next_call disk)

-- the next call is one of those that fail, or the one at which the disk stops, or comes after it
abbrev pub IsFailing : MemDiskState → Type 0
IsFailing disk = IsNextFailing disk.calls ⊎ ((0 < disk.stop) × (disk.stop ≤ next_call disk))

-- the record holds eight times the capacity of a file in bytes
abbrev pub record_of : MemDiskState → MemRecordState
record_of disk = record { steps = disk.steps; capacity = 8 * disk.capacity }

-- a write of so many bytes at a place lies within the capacity of its file and has room in the record
abbrev pub has_room : MemDiskState → ℕ → ℕ → Bool
has_room disk at count =
    nat_le (at + count) disk.capacity
    && (has_room_for_step (record_of disk) && has_room_for_bytes (record_of disk) count)

-- such a write is made, also where it then fails
abbrev pub is_made : MemDiskState → ℕ → ℕ → Bool
is_made disk at count = not (is_past_stop disk) && has_room disk at count

-- A call made these steps and was counted, as a fault where it failed. All else stays.
pub record IsCalled {T E : Type 0} (old new : MemDiskState) (made : List Step) (result : Result T E) : Type 0 where
  pub steps : new.steps ≡ old.steps ++ made
  pub calls : new.calls ≡ called old.calls
  pub faults : MatchResult result (λ _. new.faults ≡ old.faults) (λ _. new.faults ≡ one_more old.faults)
  pub base : new.base ≡ old.base
  pub capacity : new.capacity ≡ old.capacity
  pub stop : new.stop ≡ old.stop
