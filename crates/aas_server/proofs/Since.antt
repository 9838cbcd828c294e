-- What was done from a moment on, told of an earlier one on and of what is left where the payloads replay.
use Rattle.std.proofs.Common.{◌⊎◌, ⊎_elim, inl, inr, ◌≤◌, ◌+◌, ℕ, List, [], ◌∷◌, ◌++◌, Option, sym, subst}
use Rattle.std.proofs.Common.{append_assoc, arith}
use Rattle.std.proofs.lemmas.Bool.{cases_lt}
use Rattle.aas_outside.specs.Wire.{connections}
use Rattle.aas_outside.specs.Faults.{Rose}
use Rattle.aas_outside.specs.Moments.{During, InTurn}
use Rattle.aas_outside.specs.Surroundings.{Connections, Visit}
use Rattle.aas_rule.specs.Rule.{Repository, Room, after}
use Rattle.aas_rule.specs.State.{State, Holds, IsFaulted}
use Rattle.aas_session.specs.Visits.{EndsServing, ServesAll, Serving, all_commands}
use Rattle.aas_session.specs.Served.{IsBroken, IsFinished, Served}
use Rattle.aas_session.specs.Session.{End, Closed, NoMemory, Place, Turn, TakesAll, commands, going, repository, start}
use Rattle.aas_session.specs.declared.connection.Ended.{Ended}
use Rattle.aas_session.specs.declared.connection.Ended.TheVariants as ended
use Rattle.aas_session.specs.declared.wire.WireEnded.{WireEnded}
use Rattle.aas_session.specs.declared.wire.WireEnded.TheVariants as wire
use Rattle.aas_store.specs.Documents.{Documents}
use Rattle.aas_api_service.specs.Turns.{Turns}
use Rattle.aas_repo_replay.specs.Laws.{AcceptedReplay}
use Rattle.aas_repo_replay.specs.Replay.{Replays}
use Rattle.aas_server.proofs.Replayed.{AreRead, IsBehind, Replay, all_replay, fronts_replay, none_more, then_more}
use Rattle.aas_server.proofs.Replayed.{outcome_goes, sessions_go, turns_go}

-- ---- payloads that are kept in turn

-- what stands for payloads with a property that fronts have too
module _ {I : Type 0} (stands stands_then : I → List (List ℕ) → Type 0) (Has : List (List ℕ) → Type 0)
    (fronts_have : (front more : List (List ℕ)) → Has (front ++ more) → Has front)
    (weaker : (image : I) (payloads : List (List ℕ))
    → Has payloads → stands image payloads → stands_then image payloads)
    (left_at : ℕ → I → Type 0) where
  either : (image : I) (kept more : List (List ℕ))
      → Has (kept ++ more) → stands image kept ⊎ stands image (kept ++ more)
      → stands_then image kept ⊎ stands_then image (kept ++ more)
  either image kept more has h = ⊎_elim
      (λ a. inl (weaker image kept (fronts_have kept more has) a))
      (λ b. inr (weaker image (kept ++ more) has b))
      h

  one_more : (kept : List (List ℕ)) (payload : List ℕ) (more : List (List ℕ)) → Has (kept ++ payload ∷ more)
      → Has ((kept ++ payload ∷ []) ++ more)
  one_more kept payload more has = subst Has (sym (append_assoc kept (payload ∷ []) more)) has

  turn_weaker : (from to : ℕ) (kept added failed : List (List ℕ)) → Has (kept ++ (added ++ failed))
      → InTurn stands left_at from to kept added failed → InTurn stands_then left_at from to kept added failed
  turn_weaker from to kept [] failed has turn =
      (turn.0, λ t since until image here. either image kept failed has (turn.1 t since until image here))
  turn_weaker from to kept (payload ∷ added) failed has (next, since, first, rest) =
      let more : Has ((kept ++ payload ∷ []) ++ (added ++ failed)) = one_more kept payload (added ++ failed) has in (
        next,
        since,
        λ t late until image here.
            either image kept (payload ∷ []) (fronts_have (kept ++ payload ∷ []) (added ++ failed) more)
            (first t late until image here),
        turn_weaker next to (kept ++ payload ∷ []) added failed more rest,
      )

  module _ (from mid : ℕ) (kept : List (List ℕ)) (earlier : from ≤ mid)
      (before : (t : ℕ) → from ≤ t → t ≤ mid → (image : I) → left_at t image → stands_then image kept) where
    during_since : (to : ℕ) (more : List (List ℕ)) → Has (kept ++ more) → During stands left_at mid to kept more
        → During stands_then left_at from to kept more
    during_since to more has during t since until image here = ⊎_elim
        (λ low. inl (before t since (omega (arith, low)) image here))
        (λ high. either image kept more has (during t high until image here))
        (cases_lt t mid)

    pub turn_since : (to : ℕ) (added failed : List (List ℕ)) → Has (kept ++ (added ++ failed))
        → InTurn stands left_at mid to kept added failed → InTurn stands_then left_at from to kept added failed
    turn_since to [] failed has turn = (omega (arith, earlier, turn.0), during_since to failed has turn.1)
    turn_since to (payload ∷ added) failed has (next, since, first, rest) =
        let more : Has ((kept ++ payload ∷ []) ++ (added ++ failed)) = one_more kept payload (added ++ failed) has in (
          next,
          omega (arith, earlier, since),
          during_since next (payload ∷ []) (fronts_have (kept ++ payload ∷ []) (added ++ failed) more) first,
          turn_weaker next to (kept ++ payload ∷ []) added failed more rest,
        )

-- ---- what a machine holds

module _ {I : Type 0} (stands stands_then : I → List (List ℕ) → Type 0)
    (weaker : (image : I) (payloads : List (List ℕ))
    → Replay payloads → stands image payloads → stands_then image payloads)
    (d : Documents) (moment : ℕ) (left_at : ℕ → I → Type 0) (kept kept_then : List (List ℕ) → Type 0)
    (told : (payloads : List (List ℕ)) → Replays payloads d → kept payloads → kept_then payloads)
    (from mid : ℕ) (r : Repository Documents) (earlier : from ≤ mid)
    (before : (t : ℕ) → from ≤ t → t ≤ mid → (image : I) → left_at t image → stands_then image r.records) where
  pub turns_since : (added failed : List (List ℕ)) (new : Repository Documents) → IsBehind r (added ++ failed) new
      → InTurn stands left_at mid moment r.records added failed
      → InTurn stands_then left_at from moment r.records added failed
  turns_since added failed new behind turn =
      turn_since stands stands_then Replay fronts_replay weaker left_at from mid r.records earlier before
      moment added failed (all_replay r (added ++ failed) new behind) turn

  pub held_since : (payloads : List (List ℕ)) (new : Repository Documents) → IsBehind r payloads new
      → Holds stands r.records payloads new mid
      (record { documents = d; kept = kept; moment = moment; left_at = left_at })
      → Holds stands_then r.records payloads new from
      (record { documents = d; kept = kept_then; moment = moment; left_at = left_at })
  held_since payloads new behind h = record {
    documents = h.documents;
    kept = told new.records (subst (Replays new.records) (sym h.documents) behind.read) h.kept;
    in_turn =
        turns_since payloads [] new (then_more r new new payloads [] behind (none_more new behind.read)) h.in_turn;
  }

  pub faulted_since : (payloads failed : List (List ℕ)) (new : Repository Documents)
      → IsBehind r (payloads ++ failed) new
      → IsFaulted stands r.records payloads failed new.documents mid
      (record { documents = d; kept = kept; moment = moment; left_at = left_at })
      → IsFaulted stands_then r.records payloads failed new.documents from
      (record { documents = d; kept = kept_then; moment = moment; left_at = left_at })
  faulted_since payloads failed new behind f =
      record { documents = f.documents; in_turn = turns_since payloads failed new behind f.in_turn }

-- ---- what was served

module _ (accepted_replay : AcceptedReplay) (room : Room)
    {I : Type 0} (stands stands_then : I → List (List ℕ) → Type 0)
    (weaker : (image : I) (payloads : List (List ℕ))
    → Replay payloads → stands image payloads → stands_then image payloads)
    (d : Documents) (moment : ℕ) (left_at : ℕ → I → Type 0) (kept kept_then : List (List ℕ) → Type 0)
    (told : (payloads : List (List ℕ)) → Replays payloads d → kept payloads → kept_then payloads)
    (from mid : ℕ) (r : Repository Documents) (read : AreRead r) (earlier : from ≤ mid)
    (before : (t : ℕ) → from ≤ t → t ≤ mid → (image : I) → left_at t image → stands_then image r.records) where
  abbrev now : State Documents I
  now = record { documents = d; kept = kept; moment = moment; left_at = left_at }

  abbrev then : State Documents I
  then = record { documents = d; kept = kept_then; moment = moment; left_at = left_at }

  abbrev turns : (added failed : List (List ℕ)) (new : Repository Documents) → IsBehind r (added ++ failed) new
      → InTurn stands left_at mid moment r.records added failed
      → InTurn stands_then left_at from moment r.records added failed
  turns = turns_since stands stands_then weaker d moment left_at kept kept_then told from mid r earlier before

  abbrev holds_since : (payloads : List (List ℕ)) (new : Repository Documents) → IsBehind r payloads new
      → Holds stands r.records payloads new mid now → Holds stands_then r.records payloads new from then
  holds_since = held_since stands stands_then weaker d moment left_at kept kept_then told from mid r earlier before

  turns_behind : (payloads : List (List ℕ)) (old : Repository Documents)
      (input : List ℕ) (taken : List Turn) (last : Place Documents)
      → IsBehind r payloads old → TakesAll (Turns room) (start old input) taken last
      → IsBehind r (payloads ++ commands taken) (repository last)
  turns_behind payloads old input taken last behind all =
      then_more r old (repository last) payloads (commands taken) behind
      (turns_go accepted_replay room (start old input) taken last all behind.read)

  broken_since : (payloads : List (List ℕ)) (old : Repository Documents)
      (input : List ℕ) (sent_old sent_new : Option (List ℕ))
      (link_failed : Type 0) → IsBehind r payloads old
      → IsBroken (Turns room) stands r.records payloads old input mid now sent_old sent_new link_failed
      → IsBroken (Turns room) stands_then r.records payloads old input from then sent_old sent_new link_failed
  broken_since payloads old input sent_old sent_new link_failed behind b =
      let so_far : IsBehind r (payloads ++ commands b.turns) b.so_far =
      turns_behind payloads old input b.turns (going b.requests b.so_far b.bytes) behind b.taken in
      let all = then_more r b.so_far (after b.so_far b.outcome) (payloads ++ commands b.turns) b.outcome.kept so_far
      (outcome_goes accepted_replay room b.so_far b.message b.outcome b.comes so_far.read) in
      record {
        turns = b.turns;
        requests = b.requests;
        so_far = b.so_far;
        bytes = b.bytes;
        taken = b.taken;
        message = b.message;
        rest = b.rest;
        next = b.next;
        outcome = b.outcome;
        comes = b.comes;
        command = b.command;
        faulted = record {
          documents = b.faulted.documents;
          in_turn =
              turns (payloads ++ commands b.turns) b.outcome.kept (after b.so_far b.outcome) all b.faulted.in_turn;
        };
        gives = b.gives;
      }

  -- ---- one connection

  session_behind : (input : List ℕ) (taken : List Turn) (last : Place Documents)
      → TakesAll (Turns room) (start r input) taken last
      → IsBehind r (commands taken) (repository last)
  session_behind input taken last all = turns_behind [] r input taken last (none_more r read) all

  finished_since : (input : List ℕ) (sent_old sent_new : Option (List ℕ)) (end : End)
      → IsFinished (Turns room) stands r input mid now sent_old sent_new end
      → IsFinished (Turns room) stands_then r input from then sent_old sent_new end
  finished_since input sent_old sent_new end s = record {
    new = s.new;
    out = s.out;
    session = s.session;
    holds = holds_since (commands s.session.turns) s.new
        (subst (λ (x : Repository Documents). IsBehind r (commands s.session.turns) x) (sym s.session.leaves)
        (session_behind input s.session.turns s.session.last s.session.taken))
        s.holds;
    gives = s.gives;
  }

  pub served_since : (input : List ℕ) (sent_old sent_new : Option (List ℕ)) (link_failed : Type 0) (end : Ended)
      → Served (Turns room) stands r input mid now sent_old sent_new link_failed end
      → Served (Turns room) stands_then r input from then sent_old sent_new link_failed end
  served_since input sent_old sent_new link_failed ended.Closed s = finished_since input sent_old sent_new Closed s
  served_since input sent_old sent_new link_failed ended.NoMemory s = finished_since input sent_old sent_new NoMemory s
  served_since input sent_old sent_new link_failed ended.LinkFault s = record {
    turns = s.turns;
    last = s.last;
    taken = s.taken;
    holds = holds_since (commands s.turns) (repository s.last) (session_behind input s.turns s.last s.taken) s.holds;
    gives = s.gives;
  }
  served_since input sent_old sent_new link_failed ended.KeeperFault s =
      broken_since [] r input sent_old sent_new link_failed (none_more r read) s

  -- ---- visits one after another

  module _ (faults : ℕ) (coming : List Visit) (clients : ℕ) (s : Serving (Turns room) r faults coming clients) where
    all_behind : IsBehind r (all_commands s.served) s.last
    all_behind = sessions_go accepted_replay room r faults s.served s.last s.faults_last s.sessions read

    ends_since : (sent_before : List (List ℕ)) (connections : Option Connections)
        (sent : Option (List ℕ)) (faults_now : ℕ) (end : WireEnded)
        → EndsServing (Turns room) stands r faults coming clients sent_before mid now connections sent faults_now s end
        → EndsServing (Turns room) stands_then r faults coming clients sent_before from
        then connections sent faults_now s end
    ends_since sent_before connections sent faults_now wire.Done (all, holds, tells, count) =
        (all, holds_since (all_commands s.served) s.last all_behind holds, tells, count)
    ends_since sent_before connections sent faults_now wire.WireFault (holds, tells, count) =
        (holds_since (all_commands s.served) s.last all_behind holds, tells, count)
    ends_since sent_before connections sent faults_now wire.KeeperFault (v, behind, begun, came, broken, is_begun) = (
      v,
      behind,
      begun,
      came,
      broken_since (all_commands s.served) s.last v.input _ sent (Rose s.faults_last faults_now) all_behind broken,
      is_begun,
    )

  pub all_since : (c : Connections) (sent_before : List (List ℕ))
      (count : ℕ) (connections : Option Connections) (sent : Option (List ℕ))
      (faults faults_now : ℕ) (end : WireEnded)
      → ServesAll (Turns room) stands r c sent_before count mid now connections sent faults faults_now end
      → ServesAll (Turns room) stands_then r c sent_before count from then connections sent faults faults_now end
  all_since c sent_before count connections sent faults faults_now end s = record {
    serving = s.serving;
    ends = ends_since faults c.coming (c.clients + count) s.serving sent_before connections sent faults_now end s.ends;
  }
