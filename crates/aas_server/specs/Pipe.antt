-- What `pipe` does: it serves one connection, the console, from the repository on the disk. This profile's own rule.
use Rattle.std.specs.Prelude.{◌≡◌, ◌≢◌, ◌⊎◌, ℕ, List, Some}
use Rattle.aas_outside.specs.Link.{LinkState}
use Rattle.aas_outside_disk.specs.Disk.{DiskState}
use Rattle.aas_journal.specs.Kept.{has_room_behind}
use Rattle.aas_outside.specs.Faults.{Rose}
use Rattle.aas_rule.specs.Rule.{Repository}
use Rattle.aas_session.specs.Served.{Served}
use Rattle.aas_session.specs.declared.connection.Ended.{Ended}
use Rattle.aas_session.specs.declared.connection.Ended.TheVariants.{Closed, LinkFault, KeeperFault, NoMemory}
use Rattle.aas_step.specs.Valid.{AreValid}
use Rattle.aas_store.specs.Documents.{Documents}
use Rattle.aas_api_service.specs.Turns.{Turns}
use Rattle.aas_server.specs.Early.{EndsEarly}
use Rattle.aas_server.specs.OnDisk.{StandsFor, state_on}
use Rattle.aas_server.specs.Opening.{HasBegun, OpensAs}

-- the status of a connection that ended so
abbrev pub pipe_status : Ended → ℕ
pipe_status Closed = 0
pipe_status LinkFault = 3
pipe_status KeeperFault = 4
pipe_status NoMemory = 10

-- Of the session on the input from this repository this was done, and the documents that it left are valid. From the
-- start of the run on it is said for which payloads what a stop leaves stands, and as which documents it opens.
pub record IsPiped (ended : Ended) (input : List ℕ) (r : Repository Documents) (old new : LinkState)
    (disk_old disk_new : DiskState) : Type 0 where
  pub documents : Documents
  pub served : Served (Turns has_room_behind)
      (StandsFor disk_old r) r input disk_old.moment (state_on disk_new documents)
      old.sent new.sent (Rose old.faults new.faults) ended
  pub valid : AreValid documents

-- the connection was served
pub record IsConsoleServed (status : ℕ) (old new : LinkState) (disk_old disk_new : DiskState) : Type 0 where
  pub ended : Ended
  pub status_is : status ≡ pipe_status ended
  pub has_begun : HasBegun disk_old
  pub piped : (input : List ℕ) (r : Repository Documents) → old.left ≡ Some input → OpensAs disk_old r
      → IsPiped ended input r old new disk_old disk_new
  pub link_fault : ended ≡ LinkFault → Rose old.faults new.faults
  pub keeper_fault : ended ≡ KeeperFault → Rose disk_old.faults disk_new.faults
  pub no_keeper_fault : ended ≢ KeeperFault → disk_new.faults ≡ disk_old.faults

-- no repository was begun, or the connection was served
abbrev pub Pipes : ℕ → LinkState → LinkState → DiskState → DiskState → Type 0
Pipes status old new disk_old disk_new =
    EndsEarly status old new disk_old disk_new ⊎ IsConsoleServed status old new disk_old disk_new
