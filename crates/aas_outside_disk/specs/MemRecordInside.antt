-- The fields of the record of a disk in memory, and what they stand for.
use Rattle.std.specs.Prelude.{◌≡◌, ◌≤◌, ℕ, List, [], ◌∷◌, length, take, drop, sum_by, vec_capacity}
use Rattle.aas_outside_disk.specs.declared.memory_record.Entry.{Entry}
use Rattle.aas_outside_disk.specs.declared.memory_record.Entry.TheVariants.{Wrote, Synced}
use Rattle.aas_outside_disk.specs.declared.memory_record.MemRecord.TheInside.{Inside}
use Rattle.aas_outside_disk.specs.FileState.{Step, wrote, synced}
use Rattle.aas_outside_disk.specs.MemRecord.{MemRecordState}

-- how many bytes belong to an entry
abbrev pub entry_size : Entry → ℕ
entry_size (Wrote part at size) = size
entry_size (Synced part) = 0

-- the steps, where their bytes stand one after another
abbrev pub steps_of : List Entry → List ℕ → List Step
steps_of [] bytes = []
steps_of (Wrote part at size ∷ entries) bytes = wrote part at (take size bytes) ∷ steps_of entries (drop size bytes)
steps_of (Synced part ∷ entries) bytes = synced part ∷ steps_of entries bytes

abbrev pub record_view : Inside → MemRecordState
record_view a = record { steps = steps_of a.entries.items a.bytes.items; capacity = a.capacity }

pub record IsSound (a : Inside) : Type 0 where
  pub whole : sum_by entry_size a.entries.items ≡ length a.bytes.items
  pub within : length a.bytes.items ≤ a.capacity
  pub bytes_room : a.capacity ≤ vec_capacity a.bytes
  pub entries_room : 4096 ≤ vec_capacity a.entries
