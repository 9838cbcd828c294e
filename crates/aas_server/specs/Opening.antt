-- What the files of a disk open as: the journal in the chosen one is replayed. This profile's own rule.
use Rattle.std.specs.Prelude.{◌≡◌, ◌⊎◌, ℕ, List, Some, IfSome}
use Rattle.aas_outside_disk.specs.Disk.{DiskState, MayLeave}
use Rattle.aas_journal.specs.Bank.{IsBankImage, chosen_file}
use Rattle.aas_journal.specs.Causes.{IsDamaged, IsNotInitialised}
use Rattle.aas_journal.specs.Image.{gate_of}
use Rattle.aas_outside_disk.specs.Files.{Files}
use Rattle.aas_repo_replay.specs.Replay.{Replays, StopsAt}
use Rattle.aas_rule.specs.Rule.{Repository}
use Rattle.aas_rule.specs.State.{IsSettledState, State, repository_of}
use Rattle.aas_store.specs.Documents.{Documents}

pub data Opened : Type 0 where
  -- no journal
  not_initialised : Opened
  -- a journal that is damaged at the gate of this place
  damaged : ℕ → Opened
  -- a repository
  begun : Repository Documents → Opened

-- The payload behind the gate of this place is that of no command,
-- or of one that is refused, and those before it replay.
abbrev pub StopsAtGate : List (List ℕ) → ℕ → Type 0
StopsAtGate payloads at = (n : ℕ) × (d : Documents) × StopsAt payloads n d × (at ≡ gate_of payloads n)

abbrev pub Opens : Files → Opened → Type 0
Opens files not_initialised = IsNotInitialised (chosen_file files)
Opens files (damaged at) =
    IsDamaged (chosen_file files) at
    ⊎ ((payloads : List (List ℕ)) × IsBankImage files payloads × StopsAtGate payloads at)
Opens files (begun r) = IsBankImage files r.records × Replays r.records r.documents

-- they open as some repository of these documents
abbrev pub OpensTo : Documents → Files → Type 0
OpensTo d files = (records : List (List ℕ)) × Opens files (begun (record { documents = d; records = records }))

-- the files that reads give of the disk, where it tells them, open so
abbrev pub WhereTold : DiskState → Opened → Type 0
WhereTold disk opened = IfSome disk.seen (λ files. Opens files opened)

-- they open as some repository
abbrev pub HasBegun : DiskState → Type 0
HasBegun disk = IfSome disk.seen (λ files. (r : Repository Documents) × Opens files (begun r))

-- the disk tells them, and they open as this repository
abbrev pub OpensAs : DiskState → Repository Documents → Type 0
OpensAs disk r = (files : Files) × (disk.seen ≡ Some files) × Opens files (begun r)

-- whatever a stop now leaves opens as some repository of these documents
abbrev pub OpensAnyway : DiskState → Documents → Type 0
OpensAnyway disk d = (image : Files) → MayLeave disk image → OpensTo d image

-- the files that reads give of the disk, where it tells them, open as the repository of this state, which is settled
abbrev pub HasOpened : DiskState → State Documents Files → Type 0
HasOpened disk state = IfSome disk.seen (λ files. (payloads : List (List ℕ))
    × Opens files (begun (repository_of state payloads)) × IsSettledState IsBankImage state payloads)
