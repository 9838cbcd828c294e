-- Visits in memory, as their callers see them. This profile's own rule.
use Rattle.std.specs.Prelude.{◌≡◌, ◌<◌, ◌≤◌, ◌+◌, ℕ, nat_lt, min, max, Bool, false, List, [], ◌∷◌, All, Option, None}
use Rattle.std.specs.Prelude.{Some, IfSome}
use Rattle.aas_outside.specs.declared.memory_visit.MemVisit.{MemVisit}
use Rattle.aas_outside.specs.declared.visit.NextVisit.{NextVisit}
use Rattle.aas_outside.specs.declared.visit.NextVisit.TheVariants.{New, Again, NoneLeft}
use Rattle.aas_outside.specs.MemConnection.{MemConnectionState}
use Rattle.aas_outside.specs.MemWire.{MemWireState}
use Rattle.aas_outside.specs.Surroundings.{Visit}

-- it goes to one of the first clients, so many of them
abbrev pub is_below : ℕ → Option ℕ → Bool
is_below clients None = false
is_below clients (Some client) = nat_lt client clients

-- the number of the client that it goes to, where so many were begun: a new one has the next number
abbrev pub number : ℕ → Option ℕ → ℕ
number clients None = clients
number clients (Some client) = min client clients

-- the visits, where so many clients were begun
abbrev pub visits_from : ℕ → List MemVisit → List Visit
visits_from clients [] = []
visits_from clients (v ∷ visits) =
    record { client = number clients v.again; input = v.connection.left }
    ∷ visits_from (max clients (number clients v.again + 1)) visits

-- Nothing was sent on the visits to come, and they and the present one have room for so many bytes.
pub record AreReady (coming : List MemVisit) (present : Option MemConnectionState) (room : ℕ) : Type 0 where
  pub unsent : All (λ v. (v.connection.sent ≡ []) × (room ≤ v.connection.room)) coming
  pub roomy : IfSome present (λ c. room ≤ c.room)

-- The first visit to come became the present one, on which nothing was sent yet. So many clients are begun then.
pub record BecamePresent (old new : MemWireState) (v : Visit) (rest : List Visit) (clients : ℕ) : Type 0 where
  pub coming : old.coming ≡ v ∷ rest
  pub connection : MemConnectionState
  pub left : connection.left ≡ v.input
  pub unsent : connection.sent ≡ []
  pub new_is : new ≡ record old { coming = rest; clients = clients; present = Some connection }

-- The first visit to come was begun, to a new client or to one that was begun before; or there was none.
abbrev pub BeginsFirst : MemWireState → MemWireState → NextVisit → Type 0
BeginsFirst old new New =
    (v : Visit) × (rest : List Visit) × (v.client ≡ old.clients) × BecamePresent old new v rest (old.clients + 1)
BeginsFirst old new Again =
    (v : Visit) × (rest : List Visit) × (v.client < old.clients) × BecamePresent old new v rest old.clients
BeginsFirst old new NoneLeft = (old.coming ≡ []) × (new ≡ old)
