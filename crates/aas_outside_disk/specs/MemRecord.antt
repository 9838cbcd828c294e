-- The record of a disk in memory, as its callers see it. This profile's own rule.
use Rattle.std.specs.Prelude.{ℕ, ◌+◌, Bool, nat_le, nat_lt, List, length, sum_by}
use Rattle.aas_outside_disk.specs.FileState.{Step, wrote, synced}

pub record MemRecordState : Type 0 where
  -- the writes and syncs, the first of them first
  pub steps : List Step
  -- how many bytes the writes may have in all
  pub capacity : ℕ

abbrev pub bytes_of_step : Step → ℕ
bytes_of_step (wrote part at bytes) = length bytes
bytes_of_step (synced part) = 0

-- how many bytes were written in all
abbrev pub bytes_of_steps : List Step → ℕ
bytes_of_steps steps = sum_by bytes_of_step steps

-- a record holds 4,096 steps
abbrev pub has_room_for_step : MemRecordState → Bool
has_room_for_step state = nat_lt (length state.steps) 4096

abbrev pub has_room_for_bytes : MemRecordState → ℕ → Bool
has_room_for_bytes state count = nat_le (bytes_of_steps state.steps + count) state.capacity
