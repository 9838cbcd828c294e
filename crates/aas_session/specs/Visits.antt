-- Visits one after another, each beginning with the repository that the one before left. This profile's own rule.
use Rattle.std.specs.Prelude.{◌≡◌, ◌<◌, ◌≤◌, ◌+◌, ◌-◌, ◌^◌, ◌⊎◌, ℕ, Bool, List, [], ◌∷◌, ◌++◌, length, map, flat_map}
use Rattle.std.specs.Prelude.{Option, Some, true}
use Rattle.aas_outside.specs.Faults.{Rose}
use Rattle.aas_outside.specs.Link.{LinkState}
use Rattle.aas_outside.specs.Surroundings.{Visit, Connections, sent_on_all, open_visits, to_first}
use Rattle.aas_outside.specs.Wire.{connections}
use Rattle.aas_rule.specs.Rule.{Repository}
use Rattle.aas_session.specs.declared.wire.Next.{Next}
use Rattle.aas_session.specs.declared.wire.Next.TheVariants as next
use Rattle.aas_session.specs.declared.wire.WireEnded.{WireEnded}
use Rattle.aas_session.specs.declared.wire.WireEnded.TheVariants as ended
use Rattle.aas_session.specs.Served.{GivesTurns, IsBroken}
use Rattle.aas_session.specs.Session.{HttpRule, End, Place, start, repository, Turn, TakesAll, EndsAs}
use Rattle.aas_session.specs.Session.{replies, commands}
use Rattle.aas_rule.specs.State.{State, Holds}

-- a visit, the turns that were taken on it and where they led, the bytes that were given, and how many calls on the
-- link had failed before it and behind it
pub record Visited (D : Type 0) : Type 0 where
  pub visit : Visit
  pub turns : List Turn
  pub last : Place D
  pub sent : List ℕ
  pub faults_before : ℕ
  pub faults_behind : ℕ

-- Its turns are those of the session on its input. The session went to its end and all replies were given, or a call on
-- the link failed during this visit and cut it off.
abbrev pub IsServed : {D : Type 0} → HttpRule D → Repository D → Visited D → Type 0
IsServed rule old v = TakesAll rule (start old v.visit.input) v.turns v.last × (v.faults_before ≤ v.faults_behind)
    × (((end : End) × EndsAs v.last end × (v.sent ≡ replies v.turns))
    ⊎ (Rose v.faults_before v.faults_behind × GivesTurns (Some []) (Some v.sent) v.turns))

-- One after another. The first begins with this repository, where so many calls on the link had failed, and the last
-- leaves that repository and that count.
abbrev pub IsSessions : {D : Type 0} → HttpRule D → Repository D → ℕ → List (Visited D) → Repository D → ℕ → Type 0
IsSessions rule old faults [] last faults_last = (last ≡ old) × (faults_last ≡ faults)
IsSessions rule old faults (v ∷ vs) last faults_last =
    (v.faults_before ≡ faults) × IsServed rule old v
    × IsSessions rule (repository v.last) v.faults_behind vs last faults_last

-- the payloads of the commands that were accepted on them
abbrev pub all_commands : {D : Type 0} → List (Visited D) → List (List ℕ)
all_commands vs = flat_map (λ v. commands v.turns) vs

abbrev pub visits : {D : Type 0} → List (Visited D) → List Visit
visits vs = map (λ v. v.visit) vs

abbrev pub sent_on_each : {D : Type 0} → List (Visited D) → List (List ℕ)
sent_on_each vs = map (λ v. v.sent) vs

-- the wire tells what was sent on each visit that was begun, and it is this
pub record TellsSent (connections : Option Connections) (sent : Option (List ℕ)) (all : List (List ℕ)) : Type 0 where
  pub surroundings : Connections
  pub here : List ℕ
  pub told : connections ≡ Some surroundings
  pub told_here : sent ≡ Some here
  pub all_is : sent_on_all surroundings here ≡ all

-- one is begun, these are to come, so many clients were begun, and these bytes were sent on those that have ended
abbrev pub IsBegun : Option Connections → List Visit → ℕ → List (List ℕ) → Type 0
IsBegun connections coming clients ended =
    connections ≡ Some (record { coming = coming; clients = clients; ended = ended; begun = true })

-- The first of the open visits was served. Behind it are these, and so many clients were begun.
pub record ServesVisit {D I : Type 0} (rule : HttpRule D) (stands_for : I → List (List ℕ) → Type 0)
    (old : Repository D) (ahead : List Visit) (sent_before : List (List ℕ)) (clients from : ℕ) (now : State D I)
    (connections : Option Connections) (sent : Option (List ℕ)) (faults faults_now : ℕ) (v : Visited D) : Type 0 where
  pub rest : List Visit
  pub first : ahead ≡ v.visit ∷ rest
  pub served : IsServed rule old v
  pub before : v.faults_before ≡ faults
  pub behind : v.faults_behind ≡ faults_now
  pub holds : Holds stands_for old.records (commands v.turns) (repository v.last) from now
  pub is_begun : IsBegun connections rest clients sent_before
  pub sent_is : sent ≡ Some v.sent

-- One visit more, or why there was none. Before it these connections surrounded the wire, and these bytes were sent on
-- the visits that were begun.
abbrev pub ServesNext : {D I : Type 0} → HttpRule D → (I → List (List ℕ) → Type 0)
    → Repository D → Connections → Bool → (sent_before : List (List ℕ)) → ℕ → State D I
    → Option Connections → Option (List ℕ) → ℕ → ℕ → Next → Type 0
ServesNext {D} rule stands_for old c may_begin sent_before from now connections sent faults faults_now next.Begun =
    (v : Visited D) × (may_begin ≡ true) × (v.visit.client ≡ c.clients)
    × ServesVisit rule stands_for old (open_visits may_begin c) sent_before
    (c.clients + 1) from now connections sent faults faults_now v
ServesNext {D} rule stands_for old c may_begin sent_before from now connections sent faults faults_now next.Again =
    (v : Visited D) × (v.visit.client < c.clients)
    × ServesVisit rule stands_for old
    (open_visits may_begin c) sent_before c.clients from now connections sent faults faults_now v
ServesNext rule stands_for old c may_begin
    sent_before from now connections sent faults faults_now (next.Ended ended.Done) =
    (open_visits may_begin c ≡ []) × Holds stands_for old.records [] old from now
    × TellsSent connections sent sent_before × (faults_now ≡ faults)
ServesNext rule stands_for old c may_begin
    sent_before from now connections sent faults faults_now (next.Ended ended.WireFault) =
    Holds stands_for old.records [] old from now × TellsSent connections sent sent_before × (faults_now ≡ faults)
ServesNext rule stands_for old c may_begin
    sent_before from now connections sent faults faults_now (next.Ended ended.KeeperFault) =
    (v : Visit) × (rest : List Visit) × (clients : ℕ) × (open_visits may_begin c ≡ v ∷ rest) × (v.client < clients)
    × ((clients ≡ c.clients) ⊎ ((may_begin ≡ true) × (clients ≡ c.clients + 1)))
    × IsBroken rule stands_for old.records [] old v.input from now (Some []) sent (Rose faults faults_now)
    × IsBegun connections rest clients sent_before

-- The visits that were served, out of those to come that go to the first clients, so many of them, and the repository
-- and the count of failed calls that they left.
pub record Serving {D : Type 0} (rule : HttpRule D) (old : Repository D)
    (faults : ℕ) (coming : List Visit) (clients : ℕ) : Type 0 where
  pub served : List (Visited D)
  pub last : Repository D
  pub faults_last : ℕ
  pub sessions : IsSessions rule old faults served last faults_last
  pub rest : List Visit
  pub came : to_first clients coming ≡ visits served ++ rest

-- How serving ended: all those visits were served, or as many as can be counted; or the wire failed, or in the next
-- visit the keeper failed.
abbrev pub EndsServing : {D I : Type 0} → (rule : HttpRule D) → (I → List (List ℕ) → Type 0) → (old : Repository D)
    → (faults : ℕ) → (coming : List Visit) → (clients : ℕ) → (sent_before : List (List ℕ)) → ℕ → State D I
    → Option Connections → Option (List ℕ) → ℕ → Serving rule old faults coming clients → WireEnded → Type 0
EndsServing rule stands_for old faults coming clients sent_before from now connections sent faults_now s ended.Done =
    ((s.rest ≡ []) ⊎ (length s.served ≡ 2 ^ 64 - 1))
    × Holds stands_for old.records (all_commands s.served) s.last from now
    × TellsSent connections sent (sent_before ++ sent_on_each s.served) × (faults_now ≡ s.faults_last)
EndsServing rule stands_for old faults coming clients sent_before
    from now connections sent faults_now s ended.WireFault =
    Holds stands_for old.records (all_commands s.served) s.last from now
    × TellsSent connections sent (sent_before ++ sent_on_each s.served) × (faults_now ≡ s.faults_last)
EndsServing rule stands_for old faults coming clients sent_before
    from now connections sent faults_now s ended.KeeperFault =
    (v : Visit) × (behind : List Visit) × (begun : ℕ) × (s.rest ≡ v ∷ to_first clients behind)
    × IsBroken rule stands_for old.records (all_commands s.served) s.last v.input from now
    (Some []) sent (Rose s.faults_last faults_now)
    × IsBegun connections behind begun (sent_before ++ sent_on_each s.served)

-- What was done of the visits to so many clients more than were begun.
pub record ServesAll {D I : Type 0} (rule : HttpRule D) (stands_for : I → List (List ℕ) → Type 0)
    (old : Repository D) (c : Connections) (sent_before : List (List ℕ)) (count from : ℕ) (now : State D I)
    (connections : Option Connections) (sent : Option (List ℕ)) (faults faults_now : ℕ) (ended : WireEnded) :
    Type 0 where
  pub serving : Serving rule old faults c.coming (c.clients + count)
  pub ends : EndsServing rule stands_for old faults c.coming
      (c.clients + count) sent_before from now connections sent faults_now serving ended

-- the same of a wire that tells its connections and what was sent: of one visit, and of all
abbrev pub ServesNextOn : {D I : Type 0} → HttpRule D → (I → List (List ℕ) → Type 0)
    → Repository D → Bool → ℕ → State D I → LinkState → LinkState → Next → Type 0
ServesNextOn rule stands_for r may_begin from now old new next =
    (c : Connections) (sent : List ℕ) → connections old ≡ Some c → old.sent ≡ Some sent
    → ServesNext rule stands_for r c may_begin (sent_on_all c sent) from now
    (connections new) new.sent old.faults new.faults next

abbrev pub ServesWire : {D I : Type 0} → HttpRule D → (I → List (List ℕ) → Type 0)
    → Repository D → ℕ → ℕ → State D I → LinkState → LinkState → WireEnded → Type 0
ServesWire rule stands_for r count from now old new ended =
    (c : Connections) (sent : List ℕ) → connections old ≡ Some c → old.sent ≡ Some sent
    → ServesAll rule stands_for r c (sent_on_all c sent) count from now
    (connections new) new.sent old.faults new.faults ended
