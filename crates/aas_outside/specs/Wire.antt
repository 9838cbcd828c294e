-- What the calls of a wire do, which is a link whose visits come one after another. This profile's own rule.
use Rattle.std.specs.Prelude.{◌≡◌, ◌≢◌, ◌<◌, ◌+◌, ℕ, List, [], ◌∷◌, Bool, true, false, Some, IfSome}
use Rattle.std.specs.Prelude.{Option, Result, MatchResult, Ok}
use Rattle.aas_outside.specs.Faults.{HasCause, one_more}
use Rattle.aas_outside.specs.Link.{LinkState}
use Rattle.aas_outside.specs.Surroundings.{Visit, Connections, open_visits, sent_on_all}
use Rattle.aas_outside.specs.declared.visit.NextVisit.{NextVisit}
use Rattle.aas_outside.specs.declared.visit.NextVisit.TheVariants.{New, Again, NoneLeft}

-- the connections around its visits, where it tells them
abbrev pub connections : LinkState → Option Connections
connections wire = wire.surroundings.connections

-- the present visit, its bytes and what was sent stay
pub record StaysHere (old new : LinkState) : Type 0 where
  pub connections : connections new ≡ connections old
  pub left : new.left ≡ old.left
  pub sent : new.sent ≡ old.sent

-- Nothing changes but the count of calls that begin no visit.
pub record Listens {T E : Type 0} (old new : LinkState) (result : Result T E) : Type 0 where
  pub here : StaysHere old new
  pub clients : new.surroundings.clients ≡ old.surroundings.clients
  pub faults : new.faults ≡ old.faults
  pub cause : HasCause old.surroundings.faults new.surroundings.faults result

-- The present visit has ended, on which this was sent, and this one is begun, with these behind it and so many clients
-- begun.
pub record BeginsVisit (old : Connections) (sent : List ℕ) (v : Visit) (rest : List Visit) (clients : ℕ)
    (new : LinkState) : Type 0 where
  pub connections : connections new
      ≡ Some (record { coming = rest; clients = clients; ended = sent_on_all old sent; begun = true })
  pub left : new.left ≡ Some v.input
  pub unsent : new.sent ≡ Some []

-- The present visit has ended, and the first of the open visits is begun, behind which the other open ones come; or
-- none was left.
abbrev pub Begins : Connections → List ℕ → Bool → LinkState → NextVisit → Type 0
Begins old sent may_begin new New =
    (v : Visit) × (rest : List Visit) × (open_visits may_begin old ≡ v ∷ rest)
    × (may_begin ≡ true) × (v.client ≡ old.clients) × BeginsVisit old sent v rest (old.clients + 1) new
Begins old sent may_begin new Again =
    (v : Visit) × (rest : List Visit) × (open_visits may_begin old ≡ v ∷ rest)
    × (v.client < old.clients) × BeginsVisit old sent v rest old.clients new
Begins old sent may_begin new NoneLeft = (open_visits may_begin old ≡ [])
    × (connections new
    ≡ Some (record { coming = []; clients = old.clients; ended = sent_on_all old sent; begun = false }))
    × (new.left ≡ Some []) × (new.sent ≡ Some [])

-- What `next` does where the connections and what was sent are known; at Err all stays.
abbrev pub BeginsNext : {E : Type 0} → Bool → (old new : LinkState) → Result NextVisit E → Type 0
BeginsNext may_begin old new result = MatchResult result
    (λ next. IfSome (connections old) (λ c. IfSome old.sent (λ sent. Begins c sent may_begin new next)))
    (λ _. StaysHere old new)

-- A visit to a new client counts one more.
abbrev pub CountsNext : ℕ → ℕ → NextVisit → Type 0
CountsNext clients now New = now ≡ one_more clients
CountsNext clients now Again = now ≡ clients
CountsNext clients now NoneLeft = now ≡ clients

-- What `next` does to the count of clients that were begun; at Err it stays.
abbrev pub CountsClients : {E : Type 0} → ℕ → ℕ → Result NextVisit E → Type 0
CountsClients clients now result = MatchResult result (λ next. CountsNext clients now next) (λ _. now ≡ clients)

-- A `next` begins no client that it wasn't asked for, and says how many were begun. The count of calls that begin no
-- visit rises where it fails.
pub record IsNextCall {E : Type 0} (may_begin : Bool) (old new : LinkState) (result : Result NextVisit E) : Type 0 where
  pub asked : may_begin ≡ false → result ≢ Ok New
  pub counted : CountsClients old.surroundings.clients new.surroundings.clients result
  pub faults : new.faults ≡ old.faults
  pub cause : HasCause old.surroundings.faults new.surroundings.faults result
