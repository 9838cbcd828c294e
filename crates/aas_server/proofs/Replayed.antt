-- The records behind requests, sessions and visits replay to the documents then.
use Rattle.std.proofs.Common.{◌≡◌, inl, inr, ℕ, ◌-◌, Bool, true, false, List, [], ◌∷◌, ◌++◌}
use Rattle.std.proofs.Common.{refl, sym, ap, ◌∙◌, subst, append_assoc}
use Rattle.std.specs.Prelude.{if◌then◌else◌}
use Rattle.std.proofs.lemmas.List.{append-nil}
use Rattle.aas_http.specs.FirstRequest.{Message, FirstRequest, Nothing, Bad, TooLarge, NotImplemented, Whole}
use Rattle.aas_http.specs.declared.replies.Reply.{Reply}
use Rattle.aas_rule.specs.Rule.{Repository, Room, Outcome, after}
use Rattle.aas_session.specs.Visits.{Visited, IsSessions, all_commands}
use Rattle.aas_session.specs.Session.{End, Closed, NoMemory, Place, going, over, start, repository, commands}
use Rattle.aas_session.specs.Session.{Turn, refusal, closes, TurnAt, Takes, TakesAll}
use Rattle.aas_session.specs.Refusals.{bad_request, too_large, not_implemented, out_of_memory}
use Rattle.aas_store.specs.Documents.{Documents, empty}
use Rattle.aas_api_service.specs.Turns.{Turns, unchanged}
use Rattle.aas_api_service.proofs.Sessions.{Turned, turned}
use Rattle.aas_repo_replay.specs.Laws.{AcceptedReplay}
use Rattle.aas_repo_replay.specs.Replay.{Replays, ReplaysFrom}
use Rattle.aas_server.specs.Laws.{SessionsReplay}

-- ---- payloads that replay

-- they replay to some documents
abbrev pub Replay : List (List ℕ) → Type 0
Replay payloads = (d : Documents) × Replays payloads d

front_from : (old : Documents) (front more : List (List ℕ)) (d : Documents) → ReplaysFrom old (front ++ more) d
    → (mid : Documents) × ReplaysFrom old front mid
front_from old [] more d replays = (old, refl)
front_from old (payload ∷ front) more d (next, adds, rest) =
    let at = front_from next front more d rest in
    (at.0, (next, adds, at.1))

pub fronts_replay : (front more : List (List ℕ)) → Replay (front ++ more) → Replay front
fronts_replay front more (d, replays) = front_from empty front more d replays

-- ---- one repository behind another

abbrev pub AreRead : Repository Documents → Type 0
AreRead r = Replays r.records r.documents

-- The next repository has these payloads more, and its records replay to its documents.
pub record IsBehind (r : Repository Documents) (kept : List (List ℕ)) (next : Repository Documents) : Type 0 where
  pub records : next.records ≡ r.records ++ kept
  pub read : AreRead next

pub none_more : (r : Repository Documents) → AreRead r → IsBehind r [] r
none_more r read = record { records = sym (append-nil r.records); read = read }

pub then_more : (a b c : Repository Documents) (first second : List (List ℕ)) → IsBehind a first b → IsBehind b second c
    → IsBehind a (first ++ second) c
then_more a b c first second is more = record {
  records = more.records ∙ ap (λ (l : List (List ℕ)). l ++ second) is.records ∙ append_assoc a.records first second;
  read = more.read;
}

pub all_replay : (r : Repository Documents) (kept : List (List ℕ)) (next : Repository Documents) → IsBehind r kept next
    → Replay (r.records ++ kept)
all_replay r kept next is = (next.documents, subst (λ (l : List (List ℕ)). Replays l next.documents) is.records is.read)

-- ---- requests, turns and visits

module _ (accepted_replay : AcceptedReplay) (room : Room) where
  unchanged_read : (r : Repository Documents) (reply : Reply) (outcome : Outcome Documents Reply)
      → outcome ≡ unchanged r reply
      → AreRead r → AreRead (after r outcome)
  unchanged_read r reply outcome is replays = subst (λ (o : Outcome Documents Reply). AreRead (after r o)) (sym is)
      (subst (λ (l : List (List ℕ)). Replays l r.documents) (sym (append-nil r.records)) replays)

  turned_read : (r : Repository Documents) (outcome : Outcome Documents Reply) → Turned room r outcome → AreRead r
      → AreRead (after r outcome)
  turned_read r outcome (inl (reply, is)) replays = unchanged_read r reply outcome is replays
  turned_read r outcome (inr (c, new, well, steps, fields, is)) replays =
      subst (λ (o : Outcome Documents Reply). AreRead (after r o))
      (sym is) (accepted_replay room r c new replays well fields steps)

  pub outcome_goes : (r : Repository Documents) (m : Message) (outcome : Outcome Documents Reply)
      → Turns room r m outcome → AreRead r
      → IsBehind r outcome.kept (after r outcome)
  outcome_goes r m outcome comes read =
      record { records = refl; read = turned_read r outcome (turned room r m outcome comes) read }

  abbrev Goes : Repository Documents → Turn → Place Documents → Type 0
  Goes r turn next = IsBehind r turn.kept (repository next)

  refusal_goes : (r : Repository Documents) (text : List ℕ) (end : End) (turn : Turn) (next : Place Documents)
      → turn ≡ refusal text
      → next ≡ over r end → AreRead r → Goes r turn next
  refusal_goes r text end turn next is next_is read =
      subst (λ (t : Turn). Goes r t next) (sym is)
      (subst (λ (p : Place Documents). IsBehind r [] (repository p)) (sym next_is) (none_more r read))

  either_goes : (b : Bool) (r : Repository Documents) (requests : ℕ)
      (rest : List ℕ) (kept : List (List ℕ)) (new : Repository Documents)
      → IsBehind r kept new
      → IsBehind r kept (repository (if b then over new Closed else going (requests - 1) new rest))
  either_goes true r requests rest kept new is = is
  either_goes false r requests rest kept new is = is

  turn_goes : (requests : ℕ) (r : Repository Documents) (first : FirstRequest) (turn : Turn) (next : Place Documents)
      → TurnAt (Turns room) requests r first turn next → AreRead r → Goes r turn next
  turn_goes requests r Nothing turn next at read = absurd at
  turn_goes requests r Bad turn next (is, next_is) read = refusal_goes r bad_request Closed turn next is next_is read
  turn_goes requests r TooLarge turn next (is, next_is) read = refusal_goes r too_large Closed turn next is next_is read
  turn_goes requests r NotImplemented turn next (is, next_is) read =
      refusal_goes r not_implemented Closed turn next is next_is read
  turn_goes requests r (Whole message rest) turn next (inl (outcome, comes, is, next_is)) read =
      subst (λ (t : Turn). Goes r t next) (sym is)
      (subst (λ (p : Place Documents). IsBehind r outcome.kept (repository p)) (sym next_is)
      (either_goes (closes requests message) r requests rest outcome.kept
      (after r outcome) (outcome_goes r message outcome comes read)))
  turn_goes requests r (Whole message rest) turn next (inr (is, next_is)) read =
      refusal_goes r out_of_memory NoMemory turn next is next_is read

  step_goes : (place : Place Documents) (turn : Turn) (next : Place Documents) → Takes (Turns room) place turn next
      → AreRead (repository place) → Goes (repository place) turn next
  step_goes (over r end) turn next taken read = absurd taken
  step_goes (going requests r bytes) turn next (first, is, at) read = turn_goes requests r first turn next at read

  pub turns_go : (place : Place Documents) (turns : List Turn) (last : Place Documents)
      → TakesAll (Turns room) place turns last
      → AreRead (repository place) → IsBehind (repository place) (commands turns) (repository last)
  turns_go place [] last taken read =
      subst (λ (p : Place Documents). IsBehind (repository place) [] (repository p))
      (sym taken) (none_more (repository place) read)
  turns_go place (turn ∷ turns) last (next, first, rest) read =
      let goes = step_goes place turn next first read in
      then_more (repository place) (repository next) (repository last) turn.kept (commands turns) goes
      (turns_go next turns last rest goes.read)

  pub sessions_go : (old : Repository Documents) (faults : ℕ)
      (served : List (Visited Documents)) (last : Repository Documents) (faults_last : ℕ)
      → IsSessions (Turns room) old faults served last faults_last → AreRead old
      → IsBehind old (all_commands served) last
  sessions_go old faults [] last faults_last same read =
      subst (λ (r : Repository Documents). IsBehind old [] r) (sym same.0) (none_more old read)
  sessions_go old faults (v ∷ vs) last faults_last (count, first, rest) read =
      let goes = turns_go (start old v.visit.input) v.turns v.last first.0 read in
      then_more old (repository v.last) last (commands v.turns) (all_commands vs) goes
      (sessions_go (repository v.last) v.faults_behind vs last faults_last rest goes.read)

pub sessions_replay : AcceptedReplay → SessionsReplay
sessions_replay accepted_replay room old mid faults faults_mid served bytes turns last sessions taken read =
    let goes = sessions_go accepted_replay room old faults served mid faults_mid sessions read in
    (turns_go accepted_replay room (start mid bytes) turns last taken goes.read).read
