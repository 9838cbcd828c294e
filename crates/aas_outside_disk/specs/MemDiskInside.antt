-- The fields of a disk in memory, and what they stand for.
use Rattle.std.specs.Prelude.{◌≡◌, ◌*◌}
use Rattle.aas_outside_disk.specs.declared.crash.Crash.{Crash}
use Rattle.aas_outside_disk.specs.declared.memory_disk.MemDisk.TheInside.{Inside}
use Rattle.aas_outside_disk.specs.declared.memory_files.MemFiles.{MemFiles}
use Rattle.aas_outside_disk.specs.declared.part.Part.{Part}
use Rattle.aas_outside_disk.specs.Files.{Files, files_of}
use Rattle.aas_outside_disk.specs.FileState.{FileState, file_after, crash_of}
use Rattle.aas_outside_disk.specs.MemDisk.{MemDiskState}
use Rattle.aas_outside_disk.specs.MemFile.{MemFileState, left_by}
use Rattle.aas_outside_disk.specs.MemFiles.{mem_file}

abbrev pub base_of : MemFiles → Files
base_of files = files_of (λ part. (mem_file part files).base)

abbrev pub disk_view : Inside → MemDiskState
disk_view a = record {
  base = base_of a.files;
  steps = a.recorded.steps;
  capacity = a.capacity;
  calls = a.calls;
  stop = a.stop;
  faults = a.faults;
}

-- the file holds what each sort of crash leaves
abbrev pub Follows : MemFileState → FileState → Type 0
Follows file s = (choice : Crash) → left_by choice file ≡ crash_of choice s

pub record IsSound (a : Inside) : Type 0 where
  pub follows : (part : Part)
      → Follows (mem_file part a.files) (file_after part (mem_file part a.files).base a.recorded.steps)
  pub capacities : (part : Part) → (mem_file part a.files).capacity ≡ a.capacity
  pub record_capacity : a.recorded.capacity ≡ 8 * a.capacity
