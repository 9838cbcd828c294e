-- What the repository that was opened on a disk comes to where the disk was only read.
use Rattle.std.proofs.Common.{◌≡◌, ℕ, subst}
use Rattle.std.specs.Prelude.{◌≢◌, IfSome}
use Rattle.aas_outside.specs.Link.{LinkState}
use Rattle.aas_outside_disk.specs.Disk.{DiskState, OnlyReads}
use Rattle.aas_journal.specs.Laws.{HaveOneList}
use Rattle.aas_outside_disk.specs.Files.{Files}
use Rattle.aas_repo_replay.specs.Laws.{OneReplay}
use Rattle.aas_rule.specs.Rule.{Repository}
use Rattle.aas_rule.specs.State.{State}
use Rattle.aas_store.specs.Documents.{Documents}
use Rattle.aas_server.specs.Answer.{Answer, Says}
use Rattle.aas_server.specs.Telling.{IsTold}
use Rattle.aas_server.proofs.Held.{IsOpened, has_begun, same}

-- of an answer about the documents
pub told : HaveOneList → OneReplay
    → (IsAnswer : Documents → Answer → Type 0) (status : ℕ) (old new : LinkState) (start last : DiskState)
    (opened : State Documents Files) → IfSome start.seen (IsOpened opened)
    → Says (IsAnswer opened.documents) status old new → new.left ≡ old.left → (status ≡ 10 → new ≡ old)
    → status ≢ 4 → OnlyReads start last → IsTold IsAnswer status old new start last
told one_list one_replay IsAnswer status old new start last opened is_opened says unread silent no_fault unwritten =
    record {
      has_begun = has_begun start opened is_opened;
      says = λ r opens. subst (λ (x : Repository Documents). Says (IsAnswer x.documents) status old new)
          (same one_list one_replay start opened is_opened r opens) says;
      unread = unread;
      silent = silent;
      causes = record { console = says.fault; disk = λ four. absurd (no_fault four) };
      unwritten = unwritten;
    }
