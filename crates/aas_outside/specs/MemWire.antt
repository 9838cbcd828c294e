-- A wire in memory, as its callers see it. This profile's own rule.
use Rattle.std.specs.Prelude.{◌≡◌, ◌+◌, ℕ, max, List, [], ◌∷◌, ◌++◌, Option, Some, None, is_some, Result, MatchResult}
use Rattle.aas_outside.specs.Faults.{one_more}
use Rattle.aas_outside.specs.Link.{LinkState}
use Rattle.aas_outside.specs.MemCalls.{MemCallsState, called}
use Rattle.aas_outside.specs.MemConnection.{MemConnectionState}
use Rattle.aas_outside.specs.Surroundings.{Visit, Connections, Surroundings}

pub record MemWireState : Type 0 where
  -- the visits to come
  pub coming : List Visit
  -- how many clients were begun
  pub clients : ℕ
  -- what was sent on each visit that has ended
  pub ended : List (List ℕ)
  -- the visit that is begun and hasn't ended
  pub present : Option MemConnectionState
  -- how many bytes more can be given, on all visits together
  pub room : ℕ
  -- the most bytes that a call moves
  pub piece : ℕ
  pub calls : MemCallsState
  -- how many calls of `take` and `give` have failed
  pub faults : ℕ
  -- how many calls of `listen` and `next` have failed
  pub wire_faults : ℕ

-- the bytes left on the present visit
abbrev pub left_on : Option MemConnectionState → List ℕ
left_on None = []
left_on (Some connection) = connection.left

-- the bytes sent on the present visit
abbrev pub sent_on : Option MemConnectionState → List ℕ
sent_on None = []
sent_on (Some connection) = connection.sent

abbrev pub connections_of : MemWireState → Connections
connections_of wire =
    record { coming = wire.coming; clients = wire.clients; ended = wire.ended; begun = is_some wire.present }

abbrev pub surroundings_of : MemWireState → Surroundings
surroundings_of wire =
    record { connections = Some (connections_of wire); clients = wire.clients; faults = wire.wire_faults }

-- what it tells
abbrev pub link_state : MemWireState → LinkState
link_state wire = record {
  left = Some (left_on wire.present);
  sent = Some (sent_on wire.present);
  faults = wire.faults;
  surroundings = surroundings_of wire;
}

-- where so many clients were begun, how many are when these visits are made too
abbrev pub clients_behind : ℕ → List Visit → ℕ
clients_behind clients [] = clients
clients_behind clients (v ∷ visits) = clients_behind (max clients (v.client + 1)) visits

-- how many clients are begun when the visits to come are made too
abbrev pub clients_in_all : MemWireState → ℕ
clients_in_all wire = clients_behind wire.clients wire.coming

-- a visit to this client that hands over this input comes behind the others
abbrev pub with_visit : MemWireState → ℕ → List ℕ → MemWireState
with_visit wire client input = record wire { coming = wire.coming ++ record { client = client; input = input } ∷ [] }

-- A `take` or `give` was counted, as a fault where it failed.
pub record IsLinkCall {T E : Type 0} (old new : MemWireState) (result : Result T E) : Type 0 where
  pub calls : new.calls ≡ called old.calls
  pub faults : MatchResult result (λ _. new.faults ≡ old.faults) (λ _. new.faults ≡ one_more old.faults)
  pub piece : new.piece ≡ old.piece

-- A `listen` or `next` was counted, as a fault where it failed.
pub record IsWireCall {T E : Type 0} (old new : MemWireState) (result : Result T E) : Type 0 where
  pub calls : new.calls ≡ called old.calls
  pub faults : MatchResult result (λ _. new.wire_faults ≡ old.wire_faults)
      (λ _. new.wire_faults ≡ one_more old.wire_faults)
  pub piece : new.piece ≡ old.piece
  pub room : new.room ≡ old.room
