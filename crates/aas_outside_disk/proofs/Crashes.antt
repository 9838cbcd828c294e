-- That a stop now may leave what each sort of crash leaves.
use Rattle.std.proofs.Common.{Bool, sym, ◌∙◌, ap, subst, arith}
use Rattle.std.specs.Prelude.{if◌then◌else◌, slice_index}
use Rattle.aas_outside_disk.specs.declared.crash.Crash.{Crash}
use Rattle.aas_outside_disk.specs.declared.crash.Crash.TheVariants.{Old, New, Ones}
use Rattle.aas_outside_disk.specs.declared.part.Part.{Part}
use Rattle.aas_outside_disk.specs.FileState.{FileState, IsLeft, crash_of, with_ones}
use Rattle.aas_outside_disk.specs.MemDisk.{MemDiskState, clock, crash_files, disk_left_at, now}
use Rattle.aas_outside_disk.specs.MemDiskLaw.{file-files_of, now_left, seen_left}
use Rattle.aas_outside_disk.proofs.Images.{durable_left}
use Rattle.aas_outside_disk.proofs.Ones.{length-with_ones, marked}

ones_left : (s : FileState) → IsLeft s s.seen → IsLeft s (with_ones s.ranges 0 s.seen)
ones_left s agrees = record {
  no_shorter = omega (arith, agrees.no_shorter, length-with_ones s.ranges 0 s.seen);
  no_longer = omega (arith, length-with_ones s.ranges 0 s.seen);
  kept = λ place lt none. marked s.ranges s.seen place (omega (arith, lt, agrees.no_shorter))
      ∙ ap (λ (b : Bool). if b then 1 else slice_index s.seen place) none
      ∙ agrees.kept place lt none;
}

file_left : (choice : Crash) (s : FileState) → IsLeft s s.seen → IsLeft s (crash_of choice s)
file_left Old s agrees = durable_left s agrees
file_left New s agrees = agrees
file_left Ones s agrees = ones_left s agrees

pub crash_left : (choice : Crash) (disk : MemDiskState) → disk_left_at disk (clock disk) (crash_files choice disk)
crash_left choice disk =
    let each = λ (part : Part). crash_of choice (now disk part) in
    now_left disk (crash_files choice disk)
    (λ part. subst (IsLeft (now disk part)) (sym (file-files_of part each))
    (file_left choice (now disk part) (seen_left disk.base disk.steps part)))
