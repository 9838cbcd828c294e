-- How a run ends where no repository is begun. This profile's own rule.
use Rattle.std.specs.Prelude.{◌≡◌, ◌⊎◌, ℕ}
use Rattle.aas_outside.specs.Link.{LinkState}
use Rattle.aas_outside_disk.specs.Disk.{DiskState, OnlyReads}
use Rattle.aas_outside.specs.Faults.{Rose}
use Rattle.aas_server.specs.Answer.{Answer, Says, damage, disk_failed, no_journal}
use Rattle.aas_server.specs.Opening.{WhereTold, damaged, not_initialised}

-- why there is none: the disk failed, it has no journal, or one that is damaged
abbrev pub IsNotBegun : DiskState → DiskState → Answer → Type 0
IsNotBegun old new answer =
    ((answer ≡ disk_failed) × Rose old.faults new.faults)
    ⊎ ((answer ≡ no_journal) × WhereTold old not_initialised)
    ⊎ ((at : ℕ) × (answer ≡ damage at) × WhereTold old (damaged at))

-- The console says why, or there was no memory. It wasn't read, and the disk only was.
pub record EndsEarly (status : ℕ) (old new : LinkState) (disk_old disk_new : DiskState) : Type 0 where
  pub says : Says (IsNotBegun disk_old disk_new) status old new
  pub unread : new.left ≡ old.left
  pub silent : status ≡ 10 → new ≡ old
  pub unwritten : OnlyReads disk_old disk_new
