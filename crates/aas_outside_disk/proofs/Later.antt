-- How calls of a disk follow one another in time.
use Rattle.std.proofs.Common.{arith}
use Rattle.aas_outside.proofs.Turns.{passes_none, passes_on}
use Rattle.aas_outside_disk.specs.Disk.{AreDiskCalls, AreReads, DiskState, IsLater}

pub later_none : (disk : DiskState) → IsLater disk disk
later_none disk = record { past = passes_none disk.moment disk.left_at; faults = omega arith }

pub later_then : (a b c : DiskState) → IsLater a b → IsLater b c → IsLater a c
later_then a b c first second = record {
  past = passes_on a.moment b.moment c.moment a.left_at b.left_at c.left_at first.past second.past;
  faults = omega (arith, first.faults, second.faults);
}

pub later_read : (failed : Type 0) (a b : DiskState) → AreReads failed a b → IsLater a b
later_read failed a b reads = record { past = reads.only.past; faults = reads.later }

pub later_called : (failed : Type 0) (a b : DiskState) → AreDiskCalls failed a b → IsLater a b
later_called failed a b calls = record { past = calls.past; faults = calls.later }
