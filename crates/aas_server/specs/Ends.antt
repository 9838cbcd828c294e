-- Which end failed where a run ends by a fault. This profile's own rule.
use Rattle.std.specs.Prelude.{◌≡◌, ℕ}
use Rattle.aas_outside.specs.Faults.{Rose}
use Rattle.aas_outside.specs.Link.{LinkState}
use Rattle.aas_outside_disk.specs.Disk.{DiskState}

-- Status 3 comes only where a call of the console failed, status 4 only where one of the disk did.
pub record IsCaused (status : ℕ) (old new : LinkState) (disk_old disk_new : DiskState) : Type 0 where
  pub console : status ≡ 3 → Rose old.faults new.faults
  pub disk : status ≡ 4 → Rose disk_old.faults disk_new.faults
