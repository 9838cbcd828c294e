-- What surrounds the present visit of a wire. This profile's own rule.
use Rattle.std.specs.Prelude.{ℕ, nat_lt, List, [], ◌∷◌, ◌++◌, Bool, false, if◌then◌else◌, Option, Some}
use Rattle.std.specs.List.{filter}

-- a visit: the number of the client that it goes to, and what it hands over
pub record Visit : Type 0 where
  pub client : ℕ
  pub input : List ℕ

pub record Connections : Type 0 where
  -- the visits to come
  pub coming : List Visit
  -- how many clients were begun: those whose number is smaller
  pub clients : ℕ
  -- what was sent on each visit that has ended
  pub ended : List (List ℕ)
  -- whether a visit is begun and hasn't ended
  pub begun : Bool

pub record Surroundings : Type 0 where
  -- known where the end tells them
  pub connections : Option Connections
  -- how many clients were begun; it stands still at 2^64 - 1
  pub clients : ℕ
  -- how many calls of `listen` and `next` have failed
  pub faults : ℕ

-- those of a link that is no wire
abbrev pub no_surroundings : Surroundings
no_surroundings = record {
  connections = Some (record { coming = []; clients = 0; ended = []; begun = false });
  clients = 0;
  faults = 0;
}

-- what was sent on each visit that was begun, where this was sent on the present one
abbrev pub sent_on_all : Connections → List ℕ → List (List ℕ)
sent_on_all c sent = if c.begun then c.ended ++ sent ∷ [] else c.ended

-- the visits to the first clients, so many of them
abbrev pub to_first : ℕ → List Visit → List Visit
to_first clients visits = filter (λ v. nat_lt v.client clients) visits

-- the visits to come where a further client may be begun, or where none may
abbrev pub open_visits : Bool → Connections → List Visit
open_visits may_begin c = if may_begin then c.coming else to_first c.clients c.coming
