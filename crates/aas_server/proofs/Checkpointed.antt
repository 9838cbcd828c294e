-- What a checkpoint of the repository that was opened on a disk comes to.
use Rattle.std.proofs.Common.{◌≡◌, ◌⊎◌, ⊎_elim, ◌≤◌, ℕ, List, [], ◌∷◌, Option, Some, Result, Ok, Err, refl, ap, subst}
use Rattle.std.proofs.Common.{sym, ◌∙◌, inl, inr, arith}
use Rattle.std.specs.Prelude.{IfSome, MatchResult}
use Rattle.std.proofs.lemmas.Bool.{cases_lt}
use Rattle.aas_outside.specs.Link.{LinkState}
use Rattle.aas_outside_disk.specs.Disk.{DiskState, OnlyReads}
use Rattle.aas_journal.specs.Bank.{IsBankImage}
use Rattle.aas_journal.specs.Checkpoint.{checkpointed}
use Rattle.aas_journal.specs.Laws.{HaveOneList}
use Rattle.aas_outside.specs.Faults.{Rose}
use Rattle.aas_outside.specs.Moments.{Passes}
use Rattle.aas_outside_disk.specs.Files.{Files}
use Rattle.aas_repo_replay.specs.Laws.{OneReplay}
use Rattle.aas_repo_replay.specs.Replay.{Replays}
use Rattle.aas_rule.specs.Rule.{Repository}
use Rattle.aas_rule.specs.State.{State, IsSettledState}
use Rattle.aas_store.specs.Documents.{Documents}
use Rattle.aas_server.specs.Answer.{Answer, Says, disk_failed, done, journal_full}
use Rattle.aas_server.specs.Checkpointing.{Checkpoints, IsCheckpointAnswer, IsCheckpointed, IsOneRecord, OpensMeanwhile}
use Rattle.aas_server.specs.Checkpointing.{StaysOpen, checkpoint_size, whole_payload}
use Rattle.aas_server.specs.Making.{IsSaidThen, IsUnmadeBy, size_line}
use Rattle.aas_server.specs.Opening.{OpensTo}
use Rattle.aas_server.specs.declared.checkpointing.Unmade.{Unmade}
use Rattle.aas_server.specs.declared.checkpointing.Unmade.TheVariants as unmade
use Rattle.aas_server.proofs.Given.{says_weaker}
use Rattle.aas_server.proofs.Held.{IsOpened, has_begun, here, same}

-- ---- at each moment

-- the image of what replays to these documents, or of the one record that does
pub either_opens : (d : Documents) (payloads : List (List ℕ)) (record_of : List ℕ) (image : Files)
    → Replays payloads d → Replays (record_of ∷ []) d
    → IsBankImage image payloads ⊎ IsBankImage image (record_of ∷ []) → OpensTo d image
either_opens d payloads record_of image replays alone either =
    ⊎_elim (λ before. (payloads, (before, replays))) (λ after. (record_of ∷ [], (after, alone))) either

-- what is said of a line with these bytes, or of why there is none
abbrev pub IsSaid : {V : Type 0} → (V → List ℕ) → Result V Unmade → Answer → Type 0
IsSaid items made answer = MatchResult made (λ line. answer ≡ done (items line)) (λ why. IsSaidThen why answer)

-- ---- from the start on

-- a journal, seen so, before a checkpoint of these documents and after it; V is the line that is to be said
module _ {V J : Type 0} (items : V → List ℕ) (view : J → DiskState) (start : DiskState) (old new : J) (d : Documents)
    (kept : List (List ℕ) → Type 0) where
  abbrev mid : DiskState
  mid = view old

  abbrev last : DiskState
  last = view new

  abbrev opened : State Documents Files
  opened = record { documents = d; kept = kept; moment = mid.moment; left_at = mid.left_at }

  abbrev ComesTo : Result V Unmade → Type 0
  ComesTo made = (payloads : List (List ℕ)) → kept payloads → MatchResult made
      (λ line. (items line ≡ size_line (checkpoint_size d)) × IsOneRecord (whole_payload d) mid last)
      (IsUnmadeBy view d old new)

  abbrev Stays : Type 0
  Stays = (payloads : List (List ℕ))
      → Replays payloads d → IsSettledState IsBankImage opened payloads → OpensMeanwhile d mid.moment last

  module _ (one_list : HaveOneList) (one_replay : OneReplay) (is_opened : IfSome start.seen (IsOpened opened))
      (reads : OnlyReads start mid) (later : start.faults ≤ mid.faults)
      (passed : Passes mid.moment mid.left_at last.moment last.left_at) (stays : Stays)
      (status : ℕ) (console_old console_new : LinkState) (unread : console_new.left ≡ console_old.left) where
    unwritten : new ≡ old → OnlyReads start last
    unwritten unchanged = subst (λ (j : J). OnlyReads start (view j)) (sym unchanged) reads

    one_record : IsOneRecord (whole_payload d) mid last → IsOneRecord (whole_payload d) start last
    one_record is = record {
      seen =
          subst (λ (seen : Option Files).
          IfSome seen (λ files. last.seen ≡ Some (checkpointed (whole_payload d) files)))
          reads.seen is.seen;
      images = is.images;
    }

    stays_open : (payloads : List (List ℕ))
        → Replays payloads d → IsSettledState IsBankImage opened payloads → StaysOpen d start last
    stays_open payloads replays settled = λ anyway t since until image left. ⊎_elim
        (λ low. anyway image
        (reads.images t since (omega (arith, low)) image ((passed.past t (omega (arith, low)) image).0 left)))
        (λ high. stays payloads replays settled t high until image left)
        (cases_lt t mid.moment)

    abbrev Answered : Type 0
    Answered =
        (answer : Answer) × IsCheckpointAnswer d start last answer
        × Says (λ said. said ≡ answer) status console_old console_new

    is_checkpointed : (status ≡ 10 → ⊥) → (status ≡ 3 → Rose console_old.faults console_new.faults)
        → (status ≡ 4 → Rose mid.faults last.faults) → ((payloads : List (List ℕ)) → kept payloads → Answered)
        → IsCheckpointed status console_old console_new start last
    is_checkpointed ended console_failed failed answered = record {
      has_begun = has_begun start opened is_opened;
      says = λ r opens.
          let held = here one_list one_replay start opened is_opened r opens in
          subst (λ (x : Repository Documents). (answer : Answer) × IsCheckpointAnswer x.documents start last answer
          × Says (λ said. said ≡ answer) status console_old console_new)
          (same one_list one_replay start opened is_opened r opens) (answered held.0 held.2.told);
      stays = λ r opens.
          let held = here one_list one_replay start opened is_opened r opens in
          subst (λ (x : Repository Documents). StaysOpen x.documents start last)
          (same one_list one_replay start opened is_opened r opens) (stays_open held.0 held.1.1 held.2);
      unread = unread;
      ended = ended;
      causes = record { console = console_failed; disk = λ four. omega (arith, later, failed four) };
    }

    pub checkpoints : (made : Result V Unmade) → ComesTo made → (made ≡ Err unmade.NoMemory → new ≡ old)
        → Says (IsSaid items made) status console_old console_new
        → (made ≡ Err unmade.NoMemory → (status ≡ 10) × (console_new ≡ console_old))
        → (status ≡ 10 → made ≡ Err unmade.NoMemory) → (status ≡ 4 → Rose mid.faults last.faults)
        → Checkpoints status console_old console_new start last
    checkpoints (Ok line) outcome forgone says silent unsaid failed = inr (inr (is_checkpointed
        (λ ten. let no = unsaid ten in cc) says.fault failed (λ payloads keeps.
        let both = outcome payloads keeps in (
          done (size_line (checkpoint_size d)),
          inl (refl, one_record both.1),
          says_weaker _ _ status console_old console_new (λ answer is. is ∙ ap done both.0) says,
        ))))
    checkpoints (Err unmade.Full) outcome forgone says silent unsaid failed = inr (inr (is_checkpointed
        (λ ten. let no = unsaid ten in cc) says.fault failed (λ payloads keeps.
        let both = outcome payloads keeps in (journal_full, inr (inl (refl, both.0, unwritten both.1)), says))))
    checkpoints (Err unmade.Failed) outcome forgone says silent unsaid failed = inr (inr (is_checkpointed
        (λ ten. let no = unsaid ten in cc) says.fault failed (λ payloads keeps.
        (disk_failed, inr (inr (refl, omega (arith, later, outcome payloads keeps))), says))))
    checkpoints (Err unmade.NoMemory) outcome forgone says silent unsaid failed =
        let none = silent refl in
        inr (inl (record { status_is = none.0; silent = none.1; unwritten = unwritten (forgone refl) }))
