-- The walk over the payloads of a journal, and where it stops.
use Rattle.std.proofs.Common.{◌≡◌, ◌⊎◌, inl, inr, ℕ, ◌+◌, ◌<◌, List, [], ◌++◌, Some, Ok, Err, refl, sym, ap, ◌∙◌, subst}
use Rattle.std.proofs.Common.{length, take, arith}
use Rattle.std.proofs.lemmas.Option.{slice_get_within}
use Rattle.std.specs.Prelude.{IsErrAnd, MatchResult, Result}
use Rattle.aas_journal.specs.Given.{GivesNext}
use Rattle.aas_journal.specs.Image.{gate_of}
use Rattle.aas_journal.specs.declared.fault.OpenFault.{OpenFault}
use Rattle.aas_journal.specs.declared.fault.OpenFault.TheVariants.{Damaged, Failed, NoMemory, NotInitialised}
use Rattle.aas_store.specs.Documents.{Documents}
use Rattle.aas_repo_replay.specs.Laws.{OneStop}
use Rattle.aas_repo_replay.specs.Replay.{Adds, AddsNothing, Replays, StopsAt}
use Rattle.aas_repo_replay.specs.Replaying.{HasDone, IsReplayFault}
use Rattle.aas_repo_replay.proofs.Replayed.{next_replays}

-- the next payload is added
pub next_done : (payloads : List (List ℕ)) (gate next : ℕ)
    (before items : List ℕ) (old new : Documents) (done : HasDone payloads gate old)
    → before ≡ [] → GivesNext payloads done.n before items (Some next) → Adds old items new → HasDone payloads next new
next_done payloads gate next before items old new done cleared (payload, is, read, place) adds =
    let within : done.n < length payloads = slice_get_within payloads done.n payload is in
    let same : items ≡ payload = read ∙ ap (λ (l : List ℕ). l ++ payload) cleared in record {
      n = done.n + 1;
      at = record { within = omega arith; at_is = place };
      replays =
          next_replays payloads done.n old payload new done.replays is
          (subst (λ (x : List ℕ). Adds old x new) same adds);
    }

-- the next payload adds nothing
pub stop_done : (payloads : List (List ℕ)) (gate next : ℕ)
    (before items : List ℕ) (old new : Documents) (done : HasDone payloads gate old)
    → before ≡ [] → GivesNext payloads done.n before items (Some next)
    → AddsNothing old items → new ≡ old → StopsAt payloads done.n new
stop_done payloads gate next before items old new done cleared (payload, is, read, place) nothing stays =
    let same : items ≡ payload = read ∙ ap (λ (l : List ℕ). l ++ payload) cleared in record {
      before = subst (λ (x : Documents). Replays (take done.n payloads) x) (sym stays) done.replays;
      payload = payload;
      next = is;
      nothing = subst (λ (x : Documents). AddsNothing x payload) (sym stays) (subst (AddsNothing old) same nothing);
    }

-- where it stops it is answered so, unless memory is refused or the disk fails
pub stops_there : OneStop → (payloads : List (List ℕ)) {T : Type 0} (result : Result T OpenFault) (new : Documents)
    → MatchResult result (λ _. Replays payloads new) (λ fault. IsReplayFault payloads fault new)
    → (n : ℕ) (d : Documents) → StopsAt payloads n d
    → IsErrAnd result (λ fault. (fault ≡ Damaged (gate_of payloads n)) ⊎ (fault ≡ Failed) ⊎ (fault ≡ NoMemory))
stops_there one payloads (Ok done) new is n d stop = absurd (one.replay_or_stop payloads n new d is stop)
stops_there one payloads (Err NotInitialised) new is n d stop = absurd is
stops_there one payloads (Err (Damaged at)) new (m, other, place) n d stop =
    let same : m ≡ n = one.one_place payloads m n new d other stop in
    inl (ap Damaged (place ∙ ap (gate_of payloads) same))
stops_there one payloads (Err Failed) new is n d stop = inr (inl refl)
stops_there one payloads (Err NoMemory) new is n d stop = inr (inr refl)
