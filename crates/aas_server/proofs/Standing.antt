-- What a stop leaves of a repository stands for, from the opening of its disk on, told from the start of the run on.
use Rattle.std.proofs.Common.{◌≡◌, ◌≤◌, ℕ, List, Some, inl, inr, refl}
use Rattle.aas_journal.specs.Bank.{IsBankImage}
use Rattle.aas_outside.specs.Moments.{Passes}
use Rattle.aas_outside_disk.specs.Disk.{AddsNone, DiskState, MayLeave, Meanwhile}
use Rattle.aas_outside_disk.specs.Files.{Files}
use Rattle.aas_repo_replay.specs.Replay.{Replays}
use Rattle.aas_rule.specs.Rule.{Repository}
use Rattle.aas_rule.specs.State.{State}
use Rattle.aas_store.specs.Documents.{Documents}
use Rattle.aas_server.specs.OnDisk.{StandsFor, state_on}
use Rattle.aas_server.proofs.Replayed.{AreRead, Replay}

-- what is kept and replays to the documents opens as them
pub kept_opens : (last : DiskState) (d : Documents) (kept : List (List ℕ) → Type 0)
    → ((payloads : List (List ℕ))
    → kept payloads → (files : Files) × (last.seen ≡ Some files) × IsBankImage files payloads)
    → (payloads : List (List ℕ)) → Replays payloads d → kept payloads → (state_on last d).kept payloads
kept_opens last d kept told payloads replays holds =
    let files = told payloads holds in
    (files.0, files.1, (files.2, replays))

pub image_stands : (start : DiskState) (r : Repository Documents) (image : Files) (payloads : List (List ℕ))
    → Replay payloads
    → IsBankImage image payloads → StandsFor start r image payloads
image_stands start r image payloads (documents, replays) is =
    record { documents = documents; replays = replays; left = inl is; opens = λ anyway. (payloads, (is, replays)) }

-- while the disk was opened
pub stood_before : (start last : DiskState) (opened : State Documents Files) (r : Repository Documents) → AreRead r
    → Meanwhile start.moment opened.moment start.left_at opened.left_at AddsNone
    → Passes opened.moment opened.left_at last.moment last.left_at
    → (t : ℕ) → start.moment ≤ t → t ≤ opened.moment → (image : Files)
    → last.left_at t image → StandsFor start r image r.records
stood_before start last opened r read images passed t since until image here =
    let from_start : MayLeave start image = images t since until image ((passed.past t until image).0 here) in
    record {
      documents = r.documents;
      replays = read;
      left = inr (refl, from_start);
      opens = λ anyway. anyway image from_start;
    }
