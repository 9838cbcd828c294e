-- A repository on a disk, and what a stop leaves of it. This profile's own rule.
use Rattle.std.specs.Prelude.{◌≡◌, ◌⊎◌, ℕ, List}
use Rattle.aas_outside_disk.specs.Disk.{DiskState, MayLeave}
use Rattle.aas_journal.specs.Bank.{IsBankImage}
use Rattle.aas_outside_disk.specs.Files.{Files}
use Rattle.aas_repo_replay.specs.Replay.{Replays}
use Rattle.aas_rule.specs.Rule.{Repository}
use Rattle.aas_rule.specs.State.{State}
use Rattle.aas_store.specs.Documents.{Documents}
use Rattle.aas_server.specs.Opening.{OpensAnyway, OpensAs, OpensTo}

-- it keeps the payloads with which the files that reads give open as these documents
abbrev pub state_on : DiskState → Documents → State Documents Files
state_on disk d = record {
  documents = d;
  kept = λ payloads. OpensAs disk (record { documents = d; records = payloads });
  moment = disk.moment;
  left_at = disk.left_at;
}

-- In a run that begins with this repository, what a stop leaves stands for these payloads: they replay to some
-- documents, and it is their image, or they are the records of the repository and a stop at the start may have left it.
-- Where whatever a stop at the start may have left opens as the repository's documents, it opens as these documents.
pub record StandsFor (start : DiskState) (r : Repository Documents) (image : Files) (payloads : List (List ℕ)) :
    Type 0 where
  pub documents : Documents
  pub replays : Replays payloads documents
  pub left : IsBankImage image payloads ⊎ ((payloads ≡ r.records) × MayLeave start image)
  pub opens : OpensAnyway start r.documents → OpensTo documents image
