-- What `serve` does: it serves the visits of a wire one after another, each from the repository that the one before
-- left, the first from that on the disk. This profile's own rule.
use Rattle.std.specs.Prelude.{◌≡◌, ◌≢◌, ◌≤◌, ◌+◌, ◌⊎◌, ℕ, List, Some}
use Rattle.aas_outside.specs.Wire.{StaysHere, connections}
use Rattle.aas_outside.specs.Link.{LinkState}
use Rattle.aas_outside_disk.specs.Disk.{DiskState, OnlyReads}
use Rattle.aas_journal.specs.Kept.{has_room_behind}
use Rattle.aas_outside.specs.Faults.{Rose}
use Rattle.aas_outside.specs.Surroundings.{Connections, sent_on_all}
use Rattle.aas_rule.specs.Rule.{Repository}
use Rattle.aas_session.specs.Visits.{ServesAll}
use Rattle.aas_session.specs.declared.wire.WireEnded.{WireEnded}
use Rattle.aas_session.specs.declared.wire.WireEnded.TheVariants.{Done, WireFault, KeeperFault}
use Rattle.aas_step.specs.Valid.{AreValid}
use Rattle.aas_store.specs.Documents.{Documents}
use Rattle.aas_api_service.specs.Turns.{Turns}
use Rattle.aas_server.specs.Early.{EndsEarly}
use Rattle.aas_server.specs.OnDisk.{StandsFor, state_on}
use Rattle.aas_server.specs.Opening.{HasBegun, OpensAs}

abbrev pub serve_status : WireEnded → ℕ
serve_status Done = 0
serve_status WireFault = 3
serve_status KeeperFault = 4

-- A repository was begun, but the wire can't listen. Nothing was begun,
-- taken or given on it, and the disk was only read.
pub record IsUnserved (status : ℕ) (old new : LinkState) (disk_old disk_new : DiskState) : Type 0 where
  pub status_is : status ≡ 3
  pub has_begun : HasBegun disk_old
  pub fault : Rose old.surroundings.faults new.surroundings.faults
  pub here : StaysHere old new
  pub clients : new.surroundings.clients ≡ old.surroundings.clients
  pub unwritten : OnlyReads disk_old disk_new

-- From this repository on this was done of the visits that were to come to so many clients, and the documents that they
-- left are valid. From the start of the run on it is said for which payloads what a stop leaves stands, and as which
-- documents it opens.
pub record ServesClients (count : ℕ) (ended : WireEnded) (c : Connections) (sent : List ℕ) (r : Repository Documents)
    (old new : LinkState) (disk_old disk_new : DiskState) : Type 0 where
  pub documents : Documents
  pub served : ServesAll (Turns has_room_behind) (StandsFor disk_old r) r c (sent_on_all c sent) count
      disk_old.moment (state_on disk_new documents) (connections new) new.sent old.faults new.faults ended
  pub valid : AreValid documents

-- Visits were served, and no more clients were begun, whatever the wire tells.
pub record IsWireServed (count status : ℕ) (old new : LinkState) (disk_old disk_new : DiskState) : Type 0 where
  pub ended : WireEnded
  pub status_is : status ≡ serve_status ended
  pub has_begun : HasBegun disk_old
  pub served : (c : Connections) (sent : List ℕ) (r : Repository Documents)
      → connections old ≡ Some c → old.sent ≡ Some sent
      → OpensAs disk_old r → ServesClients count ended c sent r old new disk_old disk_new
  pub few : new.surroundings.clients ≤ old.surroundings.clients + count
  pub wire_fault : ended ≡ WireFault → Rose old.surroundings.faults new.surroundings.faults
  pub keeper_fault : ended ≡ KeeperFault → Rose disk_old.faults disk_new.faults
  pub no_keeper_fault : ended ≢ KeeperFault → disk_new.faults ≡ disk_old.faults

-- no repository was begun, or the wire can't listen, or its clients were served
abbrev pub Serves : ℕ → ℕ → LinkState → LinkState → LinkState → LinkState → DiskState → DiskState → Type 0
Serves count status old new wire_old wire_new disk_old disk_new =
    (EndsEarly status old new disk_old disk_new × (wire_new ≡ wire_old))
    ⊎ (IsUnserved status wire_old wire_new disk_old disk_new × (new ≡ old))
    ⊎ (IsWireServed count status wire_old wire_new disk_old disk_new × (new ≡ old))
