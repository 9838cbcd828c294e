-- What visits come to for one client: its turns over all its visits are those of one session on its bytes joined
-- together, each taken by the repository as the others left it. This profile's own rule.
use Rattle.std.specs.Prelude.{◌≡◌, ◌<◌, ◌+◌, ◌⊎◌, ◌==◌, ℕ, List, [], ◌∷◌, ◌++◌, length, map, flat_map, Some}
use Rattle.std.specs.List.{filter}
use Rattle.aas_outside.specs.Faults.{Rose}
use Rattle.aas_outside.specs.Surroundings.{Visit}
use Rattle.aas_rule.specs.Rule.{Repository}
use Rattle.aas_session.specs.Served.{GivesTurns}
use Rattle.aas_session.specs.Session.{HttpRule, End, Place, going, over, start, repository, request_limit, Turn, Takes}
use Rattle.aas_session.specs.Session.{EndsAs, replies}
use Rattle.aas_session.specs.Visits.{Visited, IsSessions, Serving, visits}

-- a turn, the client that it was taken for, the repository that it found and the one that it left
pub record Taken (D : Type 0) : Type 0 where
  pub client : ℕ
  pub turn : Turn
  pub found : Repository D
  pub left : Repository D

-- The repository that it found takes it at some place of a session, and that leaves the one that it left.
abbrev pub IsTaken : {D : Type 0} → HttpRule D → Taken D → Type 0
IsTaken {D} rule t =
    (requests : ℕ) × (bytes : List ℕ) × (next : Place D)
    × Takes rule (going requests t.found bytes) t.turn next × (t.left ≡ repository next)

-- one after another: each found the repository that the one before left
abbrev pub Follow : {D : Type 0} → HttpRule D → Repository D → List (Taken D) → Repository D → Type 0
Follow rule old [] last = last ≡ old
Follow rule old (t ∷ ts) last = (t.found ≡ old) × IsTaken rule t × Follow rule t.left ts last

abbrev pub turns_of : {D : Type 0} → List (Taken D) → List Turn
turns_of ts = map (λ t. t.turn) ts

-- those that were taken for a client
abbrev pub taken_for : {D : Type 0} → ℕ → List (Taken D) → List (Taken D)
taken_for client ts = filter (λ t. t.client == client) ts

-- the same place with this repository, as others left it
abbrev pub with_repository : {D : Type 0} → Repository D → Place D → Place D
with_repository r (going requests old bytes) = going requests r bytes
with_repository r (over old end) = over r end

-- Turns of one session, each of which found the repository as others left it. So did who sees where it stands at last.
abbrev pub TakesAmong : {D : Type 0} → HttpRule D → Place D → List (Taken D) → Place D → Type 0
TakesAmong rule place [] last = last ≡ with_repository (repository last) place
TakesAmong {D} rule place (t ∷ ts) last =
    (next : Place D) × Takes rule (with_repository t.found place) t.turn next
    × (t.left ≡ repository next) × TakesAmong rule next ts last

abbrev pub visits_to : {D : Type 0} → ℕ → List (Visited D) → List (Visited D)
visits_to client vs = filter (λ v. v.visit.client == client) vs

-- the turns of visits, what they handed over, and what was sent on them
abbrev pub turns_on : {D : Type 0} → List (Visited D) → List Turn
turns_on vs = flat_map (λ v. v.turns) vs

abbrev pub bytes_of : {D : Type 0} → List (Visited D) → List ℕ
bytes_of vs = flat_map (λ v. v.visit.input) vs

abbrev pub sent_on : {D : Type 0} → List (Visited D) → List ℕ
sent_on vs = flat_map (λ v. v.sent) vs

-- A visit left its client open: its session took all that was handed over, gave all its replies, and can go on.
pub record LeavesOpen {D : Type 0} (v : Visited D) : Type 0 where
  pub requests : ℕ
  pub repository : Repository D
  pub last : v.last ≡ going requests repository []
  pub gives : v.sent ≡ replies v.turns

-- all visits but the last left their client open
abbrev pub StayOpen : {D : Type 0} → List (Visited D) → Type 0
StayOpen [] = Unit {0}
StayOpen (v ∷ []) = Unit {0}
StayOpen (v ∷ (w ∷ vs)) = LeavesOpen v × StayOpen (w ∷ vs)

-- a call on the link failed during one of the visits
abbrev pub HasFailed : {D : Type 0} → List (Visited D) → Type 0
HasFailed [] = ⊥
HasFailed (v ∷ vs) = Rose v.faults_before v.faults_behind ⊎ HasFailed vs

-- The turns are those of one session on the bytes of the visits joined together. It went to its end and all replies
-- were given, or a call on the link failed and cut it off.
pub record IsOneSession {D : Type 0} (rule : HttpRule D) (old : Repository D)
    (vs : List (Visited D)) (ts : List (Taken D)) : Type 0 where
  pub last : Place D
  pub session : TakesAmong rule (start old (bytes_of vs)) ts last
  pub gives : ((end : End) × EndsAs last end × (sent_on vs ≡ replies (turns_of ts)))
      ⊎ (HasFailed vs × GivesTurns (Some []) (Some (sent_on vs)) (turns_of ts))

-- The turns of visits are one list, in which each found the repository that the one before left. In it the turns for
-- each client are those of the visits to it. Where all of these but the last left it open, and it had fewer than
-- 1,000,000 turns, they are one session on its bytes.
abbrev pub ClientsHaveSessions : {D : Type 0} → HttpRule D → Type 0
ClientsHaveSessions {D} rule = (old last : Repository D) (faults faults_last : ℕ) (vs : List (Visited D))
    → IsSessions rule old faults vs last faults_last
    → (ts : List (Taken D)) × Follow rule old ts last × (turns_of ts ≡ turns_on vs)
    × ((client : ℕ) → (turns_of (taken_for client ts) ≡ turns_on (visits_to client vs))
    × (StayOpen (visits_to client vs) → length (turns_on (visits_to client vs)) < request_limit
    → IsOneSession rule old (visits_to client vs) (taken_for client ts)))

-- each visit goes to the next client, so that each client is visited once
abbrev pub AreSerial : ℕ → List Visit → Type 0
AreSerial clients [] = Unit {0}
AreSerial clients (v ∷ vs) = (v.client ≡ clients) × AreSerial (clients + 1) vs

-- Of such visits the first ones were served: where none is left, all that came or as many as clients were asked for.
abbrev pub SerialVisitsAreFirst : {D : Type 0} → HttpRule D → Type 0
SerialVisitsAreFirst {D} rule =
    (old : Repository D) (faults : ℕ) (coming : List Visit) (clients count : ℕ) → AreSerial clients coming
    → (s : Serving rule old faults coming (clients + count))
    → (more : List Visit) × (coming ≡ visits s.served ++ more) × (s.rest ≡ [] → (more ≡ []) ⊎ (length s.served ≡ count))
