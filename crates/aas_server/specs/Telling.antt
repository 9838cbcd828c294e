-- What a command does that tells something of the documents on the disk. This profile's own rule.
use Rattle.std.specs.Prelude.{◌≡◌, ◌⊎◌, ℕ, List, ◌∷◌}
use Rattle.aas_outside.specs.Link.{LinkState}
use Rattle.aas_outside_disk.specs.Disk.{DiskState, OnlyReads}
use Rattle.aas_rule.specs.Rule.{Repository}
use Rattle.aas_store.specs.Documents.{Documents}
use Rattle.aas_server.specs.Answer.{Answer, Says}
use Rattle.aas_server.specs.Early.{EndsEarly}
use Rattle.aas_server.specs.Ends.{IsCaused}
use Rattle.aas_server.specs.Opening.{HasBegun, OpensAs}

-- An answer about the documents was given. The console wasn't read, and the disk only was.
pub record IsTold (IsAnswer : Documents → Answer → Type 0) (status : ℕ)
    (old new : LinkState) (disk_old disk_new : DiskState) : Type 0 where
  pub has_begun : HasBegun disk_old
  pub says : (r : Repository Documents) → OpensAs disk_old r → Says (IsAnswer r.documents) status old new
  pub unread : new.left ≡ old.left
  pub silent : status ≡ 10 → new ≡ old
  pub causes : IsCaused status old new disk_old disk_new
  pub unwritten : OnlyReads disk_old disk_new

-- no repository was begun, or an answer was given
abbrev pub Tells : (Documents → Answer → Type 0) → ℕ → LinkState → LinkState → DiskState → DiskState → Type 0
Tells IsAnswer status old new disk_old disk_new =
    EndsEarly status old new disk_old disk_new ⊎ IsTold IsAnswer status old new disk_old disk_new

-- the statuses of each command that opens a journal, and others
abbrev pub statuses_with : List ℕ → List ℕ
statuses_with others = 0 ∷ 3 ∷ 4 ∷ 5 ∷ 6 ∷ 10 ∷ others
