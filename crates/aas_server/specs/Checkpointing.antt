-- What `checkpoint` does: one record, the import of all documents,
-- is put in the place of those in the journal. This profile's own rule.
use Rattle.std.specs.Prelude.{◌≡◌, ◌≢◌, ◌⊎◌, ℕ, ◌+◌, ◌<◌, ◌≤◌, List, [], ◌∷◌, ◌++◌, codes, decimal, length}
use Rattle.std.specs.Prelude.{Some, IfSome}
use Rattle.aas_outside.specs.Link.{LinkState}
use Rattle.aas_outside_disk.specs.Disk.{DiskState, MayLeave, OnlyReads}
use Rattle.aas_command.specs.Commands.{payload_of}
use Rattle.aas_command.specs.declared.command.Command.TheVariants.{Import}
use Rattle.aas_environment.specs.Environments.{environment_of}
use Rattle.aas_journal.specs.Bank.{IsBankImage}
use Rattle.aas_journal.specs.Checkpoint.{checkpointed}
use Rattle.aas_journal.specs.Kept.{most_bytes}
use Rattle.aas_outside.specs.Faults.{Rose}
use Rattle.aas_outside_disk.specs.Files.{Files}
use Rattle.aas_rule.specs.Rule.{Repository}
use Rattle.aas_store.specs.Documents.{Documents}
use Rattle.aas_server.specs.Answer.{Answer, Says, disk_failed, done, journal_full, line}
use Rattle.aas_server.specs.Early.{EndsEarly}
use Rattle.aas_server.specs.Ends.{IsCaused}
use Rattle.aas_server.specs.Opening.{HasBegun, OpensAnyway, OpensAs, OpensTo}

-- that of the import of all documents
abbrev pub whole_payload : Documents → List ℕ
whole_payload d = payload_of (Import (environment_of d))

-- the bytes of the file
abbrev pub checkpoint_size : Documents → ℕ
checkpoint_size d = length (whole_payload d) + 14

-- it is the one record in what reads give, and in whatever a stop now leaves
pub record IsOneRecord (payload : List ℕ) (old new : DiskState) : Type 0 where
  pub seen : IfSome old.seen (λ files. new.seen ≡ Some (checkpointed payload files))
  pub images : (image : Files) → MayLeave new image → IsBankImage image (payload ∷ [])

-- what is answered: the record is kept, or has no room, or the disk failed
abbrev pub IsCheckpointAnswer : Documents → DiskState → DiskState → Answer → Type 0
IsCheckpointAnswer d old new answer =
    ((answer ≡ done (line (codes "checkpoint " ++ decimal (checkpoint_size d))))
    × IsOneRecord (whole_payload d) old new)
    ⊎ ((answer ≡ journal_full) × (most_bytes < checkpoint_size d) × OnlyReads old new)
    ⊎ ((answer ≡ disk_failed) × Rose old.faults new.faults)

-- whatever a stop at a moment from this one to now leaves opens as these documents
abbrev pub OpensMeanwhile : Documents → ℕ → DiskState → Type 0
OpensMeanwhile d from new =
    (t : ℕ) → from ≤ t → t ≤ new.moment → (image : Files) → new.left_at t image → OpensTo d image

-- Where whatever a stop at the start may have left opens as these documents,
-- so does whatever one at a moment since leaves.
abbrev pub StaysOpen : Documents → DiskState → DiskState → Type 0
StaysOpen d old new = OpensAnyway old d → OpensMeanwhile d old.moment new

-- The documents are those from before, in one record. Memory is asked for before the disk is written, so no want of it
-- is told here.
pub record IsCheckpointed (status : ℕ) (old new : LinkState) (disk_old disk_new : DiskState) : Type 0 where
  pub has_begun : HasBegun disk_old
  pub says : (r : Repository Documents)
      → OpensAs disk_old r → (answer : Answer) × IsCheckpointAnswer r.documents disk_old disk_new answer
      × Says (λ said. said ≡ answer) status old new
  pub stays : (r : Repository Documents) → OpensAs disk_old r → StaysOpen r.documents disk_old disk_new
  pub unread : new.left ≡ old.left
  pub ended : status ≢ 10
  pub causes : IsCaused status old new disk_old disk_new

-- there was no memory for it
pub record IsForgone (status : ℕ) (old new : LinkState) (disk_old disk_new : DiskState) : Type 0 where
  pub status_is : status ≡ 10
  pub silent : new ≡ old
  pub unwritten : OnlyReads disk_old disk_new

-- no repository was begun, or there was no memory, or a checkpoint was made
abbrev pub Checkpoints : ℕ → LinkState → LinkState → DiskState → DiskState → Type 0
Checkpoints status old new disk_old disk_new =
    EndsEarly status old new disk_old disk_new
    ⊎ IsForgone status old new disk_old disk_new
    ⊎ IsCheckpointed status old new disk_old disk_new
