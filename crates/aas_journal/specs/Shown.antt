-- What callers see of a journal: its disk, and what it keeps.
use Rattle.std.specs.Prelude.{ℕ, List}
use Rattle.aas_outside.specs.Keeper.{KeeperState}
use Rattle.aas_outside_disk.specs.Disk.{MayLeave}
use Rattle.aas_outside_disk.specs.Files.{Files}
use Rattle.aas_outside_disk.specs.declared.disk.Disk.{Ghosts}
use Rattle.aas_journal.specs.Kept.{Keeps, fits, has_room_behind}
use Rattle.aas_journal.specs.declared.journal.Journal.{Journal}

abbrev pub disk_of : {D : Type 0} {ghosts : Ghosts D} → Journal D ghosts → D
disk_of journal = journal.disk

abbrev pub kept_by : {D : Type 0} {ghosts : Ghosts D} → Journal D ghosts → List (List ℕ) → Type 0
kept_by {ghosts = ghosts} journal =
    let disk = ghosts.state journal.disk in
    Keeps disk.seen (MayLeave disk) journal.part journal.gate

-- what it tells as a keeper of payloads: its clock and its count of faults are the disk's
abbrev pub journal_state : {D : Type 0} {ghosts : Ghosts D} → Journal D ghosts → KeeperState Files
journal_state {ghosts = ghosts} journal =
    let disk = ghosts.state journal.disk in
    record {
      kept = kept_by journal;
      room_behind = has_room_behind;
      has_room = fits journal.gate;
      moment = disk.moment;
      left_at = disk.left_at;
      faults = disk.faults;
    }
