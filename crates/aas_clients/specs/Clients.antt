-- A client that is open. This profile's own rule.
use Rattle.std.specs.Prelude.{◌≡◌, ◌≢◌, ◌≤◌, ◌<◌, ◌+◌, ◌⊎◌, ℕ, [], Bool, true, false, Option, None, Some}
use Rattle.std.specs.Prelude.{length, vec_capacity}
use Rattle.aas_clients.specs.Fronts.{IsReady, IsUnfinished}
use Rattle.aas_clients.specs.Kept.{HandsOver, IsDeadline}
use Rattle.aas_clients.specs.declared.client.Client.{Client}
use Rattle.aas_clients.specs.declared.client.Handed.{Handed}
use Rattle.aas_clients.specs.declared.client.Turn.{Turn}
use Rattle.aas_clients.specs.declared.client.Turn.TheVariants.{Off, Waits, Visited}

-- its number in the line, if it waits
abbrev pub waiting_of : Turn → Option ℕ
waiting_of Off = None
waiting_of (Waits number) = Some number
waiting_of Visited = None

-- Who stands in the line keeps the number; who joins it gets one that is above all that were given.
-- A visit isn't begun.
pub record KeepsTurn (old new : Turn) (next next_now : ℕ) : Type 0 where
  pub rises : next ≤ next_now
  pub stays : (n : ℕ) → waiting_of old ≡ Some n → waiting_of new ≡ Some n
  pub line : (n : ℕ) → waiting_of new ≡ Some n → (waiting_of old ≡ Some n) ⊎ ((next ≤ n) × (n < next_now))
  pub visited : new ≡ Visited → old ≡ Visited

module _ {S : Type 0} {g : _} where
  -- nothing was handed over, and no more may lie here than before
  pub record GoesOn (old new : Client S g) : Type 0 where
    pub handed : new.handed ≡ old.handed
    pub requests : new.requests ≡ old.requests
    pub large : new.is_large ≡ old.is_large

  -- nothing has changed but its turn
  pub record SameBesides (old new : Client S g) : Type 0 where
    pub socket : new.socket ≡ old.socket
    pub inbox : new.inbox ≡ old.inbox
    pub replies : new.replies ≡ old.replies
    pub handed : new.handed ≡ old.handed
    pub requests : new.requests ≡ old.requests
    pub has_ended : new.has_ended ≡ old.has_ended
    pub since : new.since ≡ old.since
    pub unread : new.unread ≡ old.unread
    pub visited : new.visited ≡ old.visited
    pub large : new.is_large ≡ old.is_large

  -- A visit begins that hands over the front, which is counted. Its bytes take no more storage than the client had.
  pub record Visits (old new : Client S g) (handed : Handed) : Type 0 where
    pub front : HandsOver old.inbox.bytes.items old.has_ended
        handed.bytes.items handed.requests handed.is_last new.inbox.bytes.items
    pub handed_over : new.handed ≡ old.handed + length handed.bytes.items
    pub counted : new.requests ≡ old.requests + handed.requests
    pub storage : vec_capacity handed.bytes ≤ 4210688
    pub large : new.is_large ≡ true → old.is_large ≡ true
    pub turn : new.turn ≡ Visited

  -- Where something can be handed over it stands in the line, or is visited: else it has replies left, or has sent
  -- nothing, or a part of a request, of which more may come.
  abbrev pub HasStood : Client S g → Type 0
  HasStood client = client.turn ≡ Off → client.replies.bytes.items ≡ [] → client.inbox.bytes.items ≢ []
      → (client.has_ended ≡ false) × ∥ IsUnfinished client.inbox.bytes.items ∥₁

  -- the last moment for the request that it has begun, if it is read, isn't here
  abbrev pub RequestInTime : Client S g → ℕ → Type 0
  RequestInTime client now = (client.has_ended ≡ true)
      ⊎ (client.unread ≢ None)
      ⊎ (client.inbox.bytes.items ≡ [])
      ⊎ IsReady client.inbox.bytes.items
      ⊎ ((until : ℕ) × IsDeadline client.inbox.bytes.items client.since until × (now < until))

  -- Its replies wait for less than 30 seconds since its visit; it isn't idle while no idle client is kept; and its
  -- request is in time.
  pub record InTime (client : Client S g) (is_over : Bool) (now : ℕ) : Type 0 where
    pub replies : client.replies.bytes.items ≢ [] → now < client.visited + 30000
    pub idle : is_over ≡ true → client.inbox.bytes.items ≢ []
    pub request : RequestInTime client now
