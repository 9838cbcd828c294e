-- A file of a disk in memory, as its callers see it. This profile's own rule.
use Rattle.std.specs.Prelude.{ℕ, List, length, replicate}
use Rattle.aas_outside_disk.specs.declared.crash.Crash.{Crash}
use Rattle.aas_outside_disk.specs.declared.crash.Crash.TheVariants.{Old, New, Ones}
use Rattle.aas_outside_disk.specs.Disk.{written}

pub record MemFileState : Type 0 where
  -- what it began with
  pub base : List ℕ
  -- what reads give
  pub seen : List ℕ
  -- what the last sync made sure of
  pub durable : List ℕ
  -- what reads would give if each write since the last sync had written 1 in each place
  pub ones : List ℕ
  -- how many bytes it may have
  pub capacity : ℕ

abbrev pub left_by : Crash → MemFileState → List ℕ
left_by Old file = file.durable
left_by New file = file.seen
left_by Ones file = file.ones

abbrev pub after_file_write : ℕ → List ℕ → MemFileState → MemFileState
after_file_write at bytes file =
    record file { seen = written at bytes file.seen; ones = written at (replicate (length bytes) 1) file.ones }

abbrev pub after_file_sync : MemFileState → MemFileState
after_file_sync file = record file { durable = file.seen; ones = file.seen }
