-- Why no repository is begun, and what is said then.
use Rattle.std.proofs.Common.{◌≡◌, ℕ, List, inl, inr, refl}
use Rattle.std.specs.Prelude.{IfSome}
use Rattle.aas_outside.specs.Link.{LinkState}
use Rattle.aas_outside_disk.specs.Disk.{DiskState, OnlyReads}
use Rattle.aas_journal.specs.Bank.{IsBankImage}
use Rattle.aas_journal.specs.declared.fault.OpenFault.{OpenFault}
use Rattle.aas_journal.specs.declared.fault.OpenFault.TheVariants as fault
use Rattle.aas_outside.specs.Faults.{Rose}
use Rattle.aas_outside_disk.specs.Files.{Files}
use Rattle.aas_repo_replay.specs.Replaying.{IsReplayFault}
use Rattle.aas_store.specs.Documents.{Documents}
use Rattle.aas_server.specs.Answer.{Answer, Says}
use Rattle.aas_server.specs.Causes.{IsAnswerTo, IsCause, IsCauseIn}
use Rattle.aas_server.specs.Early.{EndsEarly, IsNotBegun}
use Rattle.aas_server.proofs.Given.{says_weaker}

pub replay_cause : (payloads : List (List ℕ)) (f : OpenFault) (d : Documents)
    → IsReplayFault payloads f d → IsCauseIn payloads f
replay_cause payloads fault.NotInitialised d is = is
replay_cause payloads (fault.Damaged at) d (n, stops, at_is) = (n, d, stops, at_is)
replay_cause payloads fault.Failed d is = tt
replay_cause payloads fault.NoMemory d is = tt

pub files_cause : (files : Files) (payloads : List (List ℕ)) (f : OpenFault)
    → IsBankImage files payloads → IsCauseIn payloads f → IsCause files f
files_cause files payloads fault.NotInitialised image is = absurd is
files_cause files payloads (fault.Damaged at) image is = inr (payloads, image, is)
files_cause files payloads fault.Failed image is = tt
files_cause files payloads fault.NoMemory image is = tt

not_begun : (f : OpenFault) (old new : DiskState) (answer : Answer) → IfSome old.seen (λ files. IsCause files f)
    → (f ≡ fault.Failed → Rose old.faults new.faults) → IsAnswerTo f answer → IsNotBegun old new answer
not_begun fault.NotInitialised old new answer cause failed is = inr (inl (is, cause))
not_begun (fault.Damaged at) old new answer cause failed is = inr (inr (at, is, cause))
not_begun fault.Failed old new answer cause failed is = inl (is, failed refl)
not_begun fault.NoMemory old new answer cause failed is = absurd is

pub early : (f : OpenFault) (status : ℕ) (old new : LinkState) (disk_old disk_new : DiskState)
    → IfSome disk_old.seen (λ files. IsCause files f)
    → (f ≡ fault.Failed → Rose disk_old.faults disk_new.faults)
    → Says (IsAnswerTo f) status old new → new.left ≡ old.left → (status ≡ 10 → new ≡ old)
    → OnlyReads disk_old disk_new → EndsEarly status old new disk_old disk_new
early f status old new disk_old disk_new cause failed says unread silent unwritten = record {
  says =
      says_weaker (IsAnswerTo f) (IsNotBegun disk_old disk_new) status old new
      (λ answer is. not_begun f disk_old disk_new answer cause failed is) says;
  unread = unread;
  silent = silent;
  unwritten = unwritten;
}
