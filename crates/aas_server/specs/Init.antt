-- What `init` does: it makes a journal of no payloads in three empty files. This profile's own rule.
use Rattle.std.specs.Prelude.{◌≡◌, ◌⊎◌, ℕ, [], Some, IfSome, codes}
use Rattle.aas_outside.specs.Link.{LinkState}
use Rattle.aas_outside_disk.specs.Disk.{DiskState, MayLeave, OnlyReads}
use Rattle.aas_journal.specs.Bank.{IsBankImage}
use Rattle.aas_journal.specs.Causes.{AreEmpty}
use Rattle.aas_journal.specs.Reads.{initial_files}
use Rattle.aas_outside.specs.Faults.{Rose}
use Rattle.aas_outside_disk.specs.Files.{Files}
use Rattle.aas_server.specs.Answer.{Answer, Says, already_there, disk_failed, done, line}

-- The files were empty and are those of a new journal. Where a stop before left empty ones, a stop now leaves the image
-- of no payloads.
pub record IsMade (old new : DiskState) : Type 0 where
  pub files : IfSome old.seen (λ files. AreEmpty files × (new.seen ≡ Some initial_files))
  pub images : IfSome old.seen (λ _. ((image : Files) → MayLeave old image → AreEmpty image)
      → (image : Files) → MayLeave new image → IsBankImage image [])

-- what is answered: the journal is made, one of the files isn't empty, or the disk failed
abbrev pub IsInitAnswer : DiskState → DiskState → Answer → Type 0
IsInitAnswer old new answer =
    ((answer ≡ done (line (codes "initialised"))) × IsMade old new)
    ⊎ ((answer ≡ already_there) × IfSome old.seen (λ files. ¬ (AreEmpty files)) × OnlyReads old new)
    ⊎ ((answer ≡ disk_failed) × Rose old.faults new.faults)

-- this was the answer
abbrev pub Inits : ℕ → LinkState → LinkState → DiskState → DiskState → Type 0
Inits status old new disk_old disk_new =
    (answer : Answer) × IsInitAnswer disk_old disk_new answer × Says (λ said. said ≡ answer) status old new
