-- What importing into the repository that was opened on a disk comes to.
use Rattle.std.proofs.Common.{◌≡◌, ◌≢◌, ◌⊎◌, ◌≤◌, ℕ, List, [], ◌∷◌, ◌++◌, Option, Some, Result, Ok, Err, refl, subst}
use Rattle.std.proofs.Common.{◌∙◌, inl, inr, arith}
use Rattle.std.specs.Prelude.{IfSome, length}
use Rattle.std.proofs.lemmas.Option.{IfSome_then}
use Rattle.aas_outside.specs.Link.{LinkState}
use Rattle.aas_command.specs.Commands.{IsWellFormed, payload_of}
use Rattle.aas_command.specs.declared.command.Command.TheVariants.{Import}
use Rattle.aas_command.specs.Encoding.{HasFields}
use Rattle.aas_environment.specs.Imports.{Imports, Spell}
use Rattle.aas_environment.specs.declared.import_fault.ImportFault.{ImportFault}
use Rattle.aas_environment.proofs.Blamed.{spelled_whole}
use Rattle.aas_environment.specs.declared.import_fault.ImportFault.TheVariants as fault
use Rattle.aas_journal.specs.Bank.{IsBankImage}
use Rattle.aas_journal.specs.Kept.{has_room_behind}
use Rattle.aas_journal.specs.Laws.{HaveOneList}
use Rattle.aas_json_spelling.specs.Reading.{reading}
use Rattle.aas_model.specs.declared.documents.Environment.{Environment}
use Rattle.aas_outside.specs.Moments.{Passes}
use Rattle.aas_outside_disk.specs.Disk.{AddsNone, DiskState, Meanwhile, OnlyReads}
use Rattle.aas_outside_disk.specs.Files.{Files}
use Rattle.aas_repo.specs.declared.repo.Counts.{Counts}
use Rattle.aas_repo_replay.specs.Laws.{AcceptedReplay, OneReplay}
use Rattle.aas_repo_replay.specs.Replay.{Replays}
use Rattle.aas_rule.specs.Rule.{Repository, Room}
use Rattle.aas_rule.specs.State.{State, Holds, IsSettledState, repository_of}
use Rattle.aas_step.specs.Step.{Steps, accepted}
use Rattle.aas_store.specs.Documents.{Documents}
use Rattle.aas_server.specs.Answer.{Answer, GivesAnswer, GivesFrontOf, Says, done}
use Rattle.aas_server.specs.Ends.{IsCaused}
use Rattle.aas_server.specs.Importing.{ImportsDemo, ImportsInput, IsFaultAnswer, IsPutIn, IsRefusal, IsTooLong, PutsIn}
use Rattle.aas_server.specs.Importing.{counts_text, demo_input, demo_text, import_limit}
use Rattle.aas_server.specs.OnDisk.{StandsFor, state_on}
use Rattle.aas_server.specs.Opening.{OpensAs}
use Rattle.aas_server.proofs.Held.{IsOpened, has_begun, here, same}
use Rattle.aas_server.proofs.Replayed.{AreRead, IsBehind, Replay, none_more}
use Rattle.aas_server.proofs.Since.{faulted_since, held_since}
use Rattle.aas_server.proofs.Standing.{image_stands, kept_opens, stood_before}

-- ---- a file that is read is that of a command that is well formed

spelled_well : (e : Environment) (bytes : List ℕ) → Spell bytes e → IsWellFormed (Import e)
unfolding IsWellFormed
spelled_well e bytes is = spelled_whole (reading bytes) e is

-- ---- what came of it and what is said

-- but for a fault of the keeper everything is as before
refused_holds : {I : Type 0} (room : Room) (stands : I → List (List ℕ) → Type 0)
    (r : Repository Documents) (bytes : List ℕ) (from : ℕ)
    (now : State Documents I) (f : ImportFault) → Imports room stands r bytes from now (Err f) → f ≢ fault.Storage
    → Holds stands r.records [] r from now
refused_holds room stands r bytes from now (fault.Read f) is other = is.2
refused_holds room stands r bytes from now (fault.Twice p) is other = is.1
refused_holds room stands r bytes from now (fault.Rule p f) is other = is.1
refused_holds room stands r bytes from now (fault.TooMany p) is other = is.1
refused_holds room stands r bytes from now fault.Full is other = is.1
refused_holds room stands r bytes from now fault.Storage is other = absurd (other refl)
refused_holds room stands r bytes from now fault.NoMemory is other = is

module _ {I : Type 0} (text : Counts → List ℕ)
    (stands : I → List (List ℕ) → Type 0) (r : Repository Documents) (input : List ℕ)
    (from : ℕ) (now : State Documents I) (status : ℕ) (old new : LinkState) where
  abbrev Came : List ℕ → Result Counts ImportFault → Type 0
  Came bytes outcome = Imports has_room_behind stands r bytes from now outcome

  pub put_well : (counts : Counts) (bytes : List ℕ) → bytes ≡ input → Came bytes (Ok counts)
      → Says (λ answer. answer ≡ done (text counts)) status old new → (status ≡ 10 → ⊥)
      → IsPutIn text stands r input from now status old new
  put_well counts bytes same is says never = record {
    outcome = Ok counts;
    imports = subst (λ (b : List ℕ). Came b (Ok counts)) same is;
    says = says;
    silent = λ ten. absurd (never ten);
  }

  pub put_not : (f : ImportFault) (bytes : List ℕ) → bytes ≡ input → Came bytes (Err f)
      → Says (IsFaultAnswer f) status old new → (status ≡ 10 → f ≢ fault.Storage)
      → IsPutIn text stands r input from now status old new
  put_not f bytes same is says unsaid =
      let came : Came input (Err f) = subst (λ (b : List ℕ). Came b (Err f)) same is in record {
        outcome = Err f;
        imports = came;
        says = says;
        silent = λ ten. refused_holds has_room_behind stands r input from now f came (unsaid ten);
      }

-- what was read to its end, of an input that is told
pub all_read : (left : Option (List ℕ)) (items input : List ℕ)
    → IfSome left (λ all. items ≡ all) → left ≡ Some input → items ≡ input
all_read left items input whole told = subst (λ (l : Option (List ℕ)). IfSome l (λ all. items ≡ all)) told whole

pub all_within : (left : Option (List ℕ)) (items : List ℕ) (limit : ℕ)
    → IfSome left (λ all. items ≡ all) → length items ≤ limit
    → IfSome left (λ all. length all ≤ limit)
all_within left items limit whole within =
    IfSome_then left whole (λ all is. subst (λ (l : List ℕ). length l ≤ limit) is within)

-- after a call that gave nothing
pub says_moved : (P : Answer → Type 0) (status : ℕ) (old mid new : LinkState)
    → mid.sent ≡ old.sent → old.faults ≤ mid.faults
    → Says P status mid new → Says P status old new
says_moved P status old mid new nothing later says = record {
  given = λ not3 not10.
      subst (λ (sent : Option (List ℕ)). GivesAnswer P status sent new.sent) nothing (says.given not3 not10);
  front = λ is. subst (λ (sent : Option (List ℕ)). GivesFrontOf P sent new.sent) nothing (says.front is);
  fault = λ is. omega (arith, later, says.fault is);
  memory = λ is. says.memory is ∙ nothing;
}

-- ---- from an earlier moment on

module _ (accepted_replay : AcceptedReplay) (room : Room) {I : Type 0} (stands stands_then : I → List (List ℕ) → Type 0)
    (weaker : (image : I) (payloads : List (List ℕ))
    → Replay payloads → stands image payloads → stands_then image payloads)
    (d : Documents) (moment : ℕ) (left_at : ℕ → I → Type 0) (kept kept_then : List (List ℕ) → Type 0)
    (told : (payloads : List (List ℕ)) → Replays payloads d → kept payloads → kept_then payloads)
    (from mid : ℕ) (r : Repository Documents) (read : AreRead r) (earlier : from ≤ mid)
    (before : (t : ℕ) → from ≤ t → t ≤ mid → (image : I) → left_at t image → stands_then image r.records) where
  abbrev now : State Documents I
  now = record { documents = d; kept = kept; moment = moment; left_at = left_at }

  abbrev then : State Documents I
  then = record { documents = d; kept = kept_then; moment = moment; left_at = left_at }

  pub unchanged_since : Holds stands r.records [] r mid now → Holds stands_then r.records [] r from then
  unchanged_since h =
      held_since stands stands_then weaker d moment left_at kept kept_then told from mid r earlier before [] r
      (none_more r read) h

  abbrev next_of : Environment → Documents → Repository Documents
  next_of e new = record { documents = new; records = r.records ++ payload_of (Import e) ∷ [] }

  behind : (e : Environment) (bytes : List ℕ) (new : Documents)
      → Spell bytes e → Steps room r (Import e) (accepted new) → HasFields (Import e)
      → IsBehind r (payload_of (Import e) ∷ []) (next_of e new)
  behind e bytes new spelled steps fields =
      record {
        records = refl;
        read = accepted_replay room r (Import e) new read (spelled_well e bytes spelled) fields steps;
      }

  pub imports_since : (bytes : List ℕ) (outcome : Result Counts ImportFault)
      → Imports room stands r bytes mid now outcome
      → Imports room stands_then r bytes from then outcome
  imports_since bytes (Ok counts) is =
      let a = is.accepted in record {
        environment = is.environment;
        spelled = is.spelled;
        counted = is.counted;
        accepted = record {
          new = a.new;
          steps = a.steps;
          fields = a.fields;
          holds = held_since stands stands_then weaker d moment left_at kept kept_then told from mid r earlier before
              (payload_of (Import is.environment) ∷ []) (next_of is.environment a.new)
              (behind is.environment bytes a.new is.spelled a.steps a.fields) a.holds;
        };
      }
  imports_since bytes (Err (fault.Read f)) is = (is.0, is.1, unchanged_since is.2)
  imports_since bytes (Err (fault.Twice p)) is = (is.0, unchanged_since is.1)
  imports_since bytes (Err (fault.Rule p f)) is = (is.0, unchanged_since is.1)
  imports_since bytes (Err (fault.TooMany p)) is = (is.0, unchanged_since is.1)
  imports_since bytes (Err fault.Full) is = (is.0, unchanged_since is.1)
  imports_since bytes (Err fault.Storage) is =
      let t = is.torn in record {
        environment = is.environment;
        spelled = is.spelled;
        torn = record {
          new = t.new;
          steps = t.steps;
          fields = t.fields;
          faulted =
              faulted_since stands stands_then weaker d moment left_at kept kept_then told from mid r earlier before []
              (payload_of (Import is.environment) ∷ []) (next_of is.environment t.new)
              (behind is.environment bytes t.new is.spelled t.steps t.fields) t.faulted;
        };
      }
  imports_since bytes (Err fault.NoMemory) is = unchanged_since is

-- ---- on a disk

module _ (one_list : HaveOneList) (one_replay : OneReplay) (accepted_replay : AcceptedReplay)
    (start last : DiskState) (opened : State Documents Files) (d : Documents) (kept : List (List ℕ) → Type 0)
    (told : (payloads : List (List ℕ))
    → kept payloads → (files : Files) × (last.seen ≡ Some files) × IsBankImage files payloads)
    (is_opened : IfSome start.seen (IsOpened opened))
    (reads : Passes start.moment start.left_at opened.moment opened.left_at)
    (images : Meanwhile start.moment opened.moment start.left_at opened.left_at AddsNone)
    (passed : Passes opened.moment opened.left_at last.moment last.left_at) where
  abbrev end : State Documents Files
  end = record { documents = d; kept = kept; moment = last.moment; left_at = last.left_at }

  abbrev IsPut : (Counts → List ℕ) → List ℕ → ℕ → LinkState → LinkState → Repository Documents → Type 0
  IsPut text input status old new r = IsPutIn text IsBankImage r input opened.moment end status old new

  module _ (text : Counts → List ℕ) (input : List ℕ) (status : ℕ) (old new : LinkState) where
    put_since : (r : Repository Documents)
        → AreRead r → IsPut text input status old new r → PutsIn text input r status old new start last
    put_since r read is = (
      d,
      record {
        outcome = is.outcome;
        imports = imports_since accepted_replay has_room_behind IsBankImage (StandsFor start r) (image_stands start r)
            d last.moment last.left_at kept (state_on last d).kept (kept_opens last d kept told)
            start.moment opened.moment r read reads.later
            (stood_before start last opened r read images passed) input is.outcome is.imports;
        says = is.says;
        silent = λ ten.
            unchanged_since accepted_replay has_room_behind IsBankImage (StandsFor start r) (image_stands start r)
            d last.moment last.left_at kept (state_on last d).kept (kept_opens last d kept told)
            start.moment opened.moment r read reads.later
            (stood_before start last opened r read images passed) (is.silent ten);
      },
    )

    puts_in : ((records : List (List ℕ))
        → IsSettledState IsBankImage opened records → IsPut text input status old new (repository_of opened records))
        → (r : Repository Documents) → OpensAs start r → PutsIn text input r status old new start last
    puts_in put r opens =
        let held = here one_list one_replay start opened is_opened r opens in
        put_since r opens.2.1
        (subst (IsPut text input status old new) (same one_list one_replay start opened is_opened r opens)
        (put held.0 held.2))

  pub input_imported : (unchanged : Type 0) (status : ℕ) (old new : LinkState)
      → (Says (IsTooLong old.left) status old new × unchanged) ⊎ (IfSome old.left (λ input. length input ≤ import_limit)
      × ((input : List ℕ) → old.left ≡ Some input → (records : List (List ℕ)) → IsSettledState IsBankImage opened records
      → IsPut counts_text input status old new (repository_of opened records)))
      → (IsRefusal status → unchanged) → (unchanged → OnlyReads start last) → IsCaused status old new start last
      → ImportsInput status old new start last
  input_imported unchanged status old new (inl not_taken) refused unwritten causes = inr (inl (record {
    has_begun = has_begun start opened is_opened;
    says = not_taken.0;
    unwritten = unwritten not_taken.1;
  }))
  input_imported unchanged status old new (inr taken) refused unwritten causes = inr (inr (record {
    has_begun = has_begun start opened is_opened;
    within = taken.0;
    put_in = λ input r left opens.
        puts_in counts_text input status old new (λ records settled. taken.1 input left records settled) r opens;
    refused = λ is. unwritten (refused is);
    causes = causes;
  }))

  pub demo_imported : (unchanged : Type 0) (count status : ℕ) (old new : LinkState)
      → ((status ≡ 10) × (new ≡ old) × unchanged)
      ⊎ ((records : List (List ℕ)) → IsSettledState IsBankImage opened records
      → IsPut (λ counts. demo_text count) (demo_input count) status old new (repository_of opened records))
      → (IsRefusal status → unchanged) → (unchanged → OnlyReads start last) → new.left ≡ old.left
      → IsCaused status old new start last
      → ImportsDemo count status old new start last
  demo_imported unchanged count status old new (inl (ten, silent, same)) refused unwritten unread causes =
      inr (inl (record { status_is = ten; silent = silent; unwritten = unwritten same }))
  demo_imported unchanged count status old new (inr put) refused unwritten unread causes = inr (inr (record {
    has_begun = has_begun start opened is_opened;
    put_in = λ r opens. puts_in (λ counts. demo_text count) (demo_input count) status old new put r opens;
    unread = unread;
    refused = λ is. unwritten (refused is);
    causes = causes;
  }))
