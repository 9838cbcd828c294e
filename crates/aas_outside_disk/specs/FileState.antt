-- What writes and syncs make of a file, and what a stop may leave of it. This profile's own rule.
use Rattle.std.specs.Prelude.{◌≡◌, ℕ, suc, ◌+◌, ◌<◌, ◌≤◌, Bool, ◌&&◌, nat_le, nat_lt, IsFalse, if◌then◌else◌, List, []}
use Rattle.std.specs.Prelude.{◌∷◌, length, slice_index}
use Rattle.std.specs.List.{fold, list_any}
use Rattle.aas_outside_disk.specs.declared.crash.Crash.{Crash}
use Rattle.aas_outside_disk.specs.declared.crash.Crash.TheVariants.{Old, New, Ones}
use Rattle.aas_outside_disk.specs.declared.part.Part.{Part}
use Rattle.aas_outside_disk.specs.Disk.{written}
use Rattle.aas_outside_disk.specs.Files.{same_part}

-- a write of bytes at a place of a file, or a sync of a file
pub data Step : Type 0 where
  wrote : Part → ℕ → List ℕ → Step
  synced : Part → Step

pub record Range : Type 0 where
  pub at : ℕ
  pub size : ℕ

pub record FileState : Type 0 where
  -- what the last sync made sure of
  pub durable : List ℕ
  -- where was written since
  pub ranges : List Range
  -- what reads give
  pub seen : List ℕ

abbrev pub is_in : Range → ℕ → Bool
is_in range place = nat_le range.at place && nat_lt place (range.at + range.size)

abbrev pub is_written : List Range → ℕ → Bool
is_written ranges place = list_any (λ range. is_in range place) ranges

-- a stop leaves these bytes
abbrev pub settled : List ℕ → FileState
settled bytes = record { durable = bytes; ranges = []; seen = bytes }

abbrev pub after_write : ℕ → List ℕ → FileState → FileState
after_write at bytes s =
    record s { ranges = record { at = at; size = length bytes } ∷ s.ranges; seen = written at bytes s.seen }

-- what a step makes of this file
abbrev pub after_step : Part → FileState → Step → FileState
after_step part s (wrote other at bytes) = if same_part part other then after_write at bytes s else s
after_step part s (synced other) = if same_part part other then settled s.seen else s

-- a file that began with these bytes, after these steps
abbrev pub file_after : Part → List ℕ → List Step → FileState
file_after part bytes steps = fold (after_step part) (settled bytes) steps

-- What a stop may leave: any bytes where was written since the last sync and past the end that it made sure of, and the
-- same bytes elsewhere.
pub record IsLeft (s : FileState) (bytes : List ℕ) : Type 0 where
  pub no_shorter : length s.durable ≤ length bytes
  pub no_longer : length bytes ≤ length s.seen
  pub kept : (place : ℕ) → place < length s.durable → IsFalse (is_written s.ranges place)
      → slice_index bytes place ≡ slice_index s.durable place

-- 1 in each place that was written, where these bytes stand from a place on
abbrev pub with_ones : List Range → ℕ → List ℕ → List ℕ
with_ones ranges place [] = []
with_ones ranges place (byte ∷ bytes) =
    (if is_written ranges place then 1 else byte) ∷ with_ones ranges (suc place) bytes

-- what each sort of crash leaves
abbrev pub crash_of : Crash → FileState → List ℕ
crash_of Old s = s.durable
crash_of New s = s.seen
crash_of Ones s = with_ones s.ranges 0 s.seen
