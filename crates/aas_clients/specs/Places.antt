-- The places of clients, and the line of those who wait. This profile's own rule.
use Rattle.std.specs.Prelude.{Bool, ◌≡◌, ◌≢◌, ◌≤◌, ◌<◌, ◌+◌, ◌⊎◌, ℕ, true, false, List, [], ◌∷◌, ◌++◌, Option, Some}
use Rattle.std.specs.Prelude.{None, length, slice_get, slice_set, sum_by, vec_capacity, nat_lt, position, if◌then◌else◌}
use Rattle.std.specs.List.{count_by}
use Rattle.std.specs.Option.{option_and_then}
use Rattle.aas_clients.specs.Clients.{HasStood, InTime, Visits, waiting_of}
use Rattle.aas_clients.specs.declared.client.Client.{Client}
use Rattle.aas_clients.specs.declared.client.Handed.{Handed}
use Rattle.aas_clients.specs.declared.client.Turn.{Turn}
use Rattle.aas_clients.specs.declared.client.Turn.TheVariants.{Off, Waits, Visited}
use Rattle.aas_clients.specs.declared.visit.Visit.{Visit}
use Rattle.aas_clients.specs.declared.place.Event.{Event}
use Rattle.aas_clients.specs.declared.place.Event.TheVariants as event
use Rattle.aas_clients.specs.declared.place.Place.{Place}
use Rattle.aas_clients.specs.declared.place.Place.TheVariants.{Free, Open, Parting}

-- it is between two requests since then: it doesn't wait and isn't visited, and nothing of it is there
abbrev pub idle_from : Turn → List ℕ → ℕ → Option ℕ
idle_from Off [] since = Some since
idle_from Off (x ∷ xs) since = None
idle_from (Waits number) inbox since = None
idle_from Visited inbox since = None

-- one that is free, or one more, of 512
abbrev pub place_among : Option ℕ → ℕ → Option ℕ
place_among (Some number) size = Some number
place_among None size = if nat_lt size 512 then Some size else None

module _ {S : Type 0} {g : _} where
  -- whether nothing lies here
  abbrev pub is_free : Place S g → Bool
  is_free Free = true
  is_free (Open client) = false
  is_free (Parting parting) = false

  -- whether a client is open here
  abbrev pub is_open : Place S g → Bool
  is_open Free = false
  is_open (Open client) = true
  is_open (Parting parting) = false

  -- whether the client here is no longer answered, and isn't closed yet
  abbrev pub is_parting : Place S g → Bool
  is_parting Free = false
  is_parting (Open client) = false
  is_parting (Parting parting) = true

  -- whether more than 32 KiB of a client may lie here
  abbrev pub is_large : Place S g → Bool
  is_large Free = false
  is_large (Open client) = client.is_large
  is_large (Parting parting) = false

  -- its number in the line, if its client waits for a visit
  abbrev pub turn_of : Place S g → Option ℕ
  turn_of Free = None
  turn_of (Open client) = waiting_of client.turn
  turn_of (Parting parting) = None

  -- since when its client is idle, if it is
  abbrev pub idle_since : Place S g → Option ℕ
  idle_since Free = None
  idle_since (Open client) = idle_from client.turn client.inbox.bytes.items client.since
  idle_since (Parting parting) = None

  -- how many requests, and how many bytes, were handed over of its client
  abbrev pub counts_of : Place S g → ℕ × ℕ
  counts_of Free = (0, 0)
  counts_of (Open client) = (client.requests, client.handed)
  counts_of (Parting parting) = (0, 0)

  -- how many bytes of storage what lies here takes
  abbrev pub storage_of : Place S g → ℕ
  storage_of Free = 0
  storage_of (Open client) = vec_capacity client.inbox.bytes + vec_capacity client.replies.bytes
  storage_of (Parting parting) = vec_capacity parting.replies.bytes

  abbrev pub IsVisited : Place S g → Type 0
  IsVisited place = (client : Client S g) × (place ≡ Open client) × (client.turn ≡ Visited)

  -- its client is visited, and no more of its replies may wait
  abbrev pub IsFull : Place S g → Type 0
  IsFull place =
      (client : Client S g) × (place ≡ Open client)
      × (client.turn ≡ Visited) × (length client.replies.bytes.items ≡ 32768)

  -- its client is between two requests: all that it was given is taken, and it may send more
  pub record IsQuiet (place : Place S g) : Type 0 where
    pub client : Client S g
    pub here : place ≡ Open client
    pub off : client.turn ≡ Off
    pub nothing : client.inbox.bytes.items ≡ []
    pub taken : client.replies.bytes.items ≡ []
    pub goes_on : client.has_ended ≡ false

  -- its client stands in the line where it can be visited
  abbrev pub HasStoodHere : Place S g → Type 0
  HasStoodHere place = (client : Client S g) → place ≡ Open client → HasStood client

  -- What may change at a place, where the numbers from `next` on are free: nobody is opened, what is counted stays, who
  -- waits keeps the number, who joins the line gets a free one, and who can be visited has joined it.
  pub record Changes (old new : Place S g) (next next_now : ℕ) : Type 0 where
    pub opens : is_open new ≡ true → is_open old ≡ true
    pub counts : is_open new ≡ true → counts_of new ≡ counts_of old
    pub rises : next ≤ next_now
    pub stays : (n : ℕ) → turn_of old ≡ Some n → is_open new ≡ true → turn_of new ≡ Some n
    pub line : (n : ℕ) → turn_of new ≡ Some n → (turn_of old ≡ Some n) ⊎ ((next ≤ n) × (n < next_now))
    pub visited : IsVisited new → IsVisited old
    pub stood : HasStoodHere new

  -- what an event does at a place: no more may lie there
  pub record Moves (old new : Place S g) (next next_now : ℕ) : Type 0 where
    pub changes : Changes old new next next_now
    pub large : is_large new ≡ true → is_large old ≡ true

  -- its client is in time, if one is open here that isn't visited
  abbrev pub IsInTime : Place S g → Bool → ℕ → Type 0
  IsInTime place is_over now =
      (client : Client S g) → place ≡ Open client → client.turn ≢ Visited → InTime client is_over now

  -- what is so behind an event
  abbrev pub IsDone : Event → ℕ → Place S g → Type 0
  IsDone event.Ready now place = Unit {0}
  IsDone (event.Waits is_over) now place = IsInTime place is_over now
  IsDone event.Rests now place = IsVisited place → ⊥
  IsDone event.Parts now place = is_open place ≡ false

  -- a visit begins at a place
  abbrev pub HandsOverAt : Place S g → Place S g → Handed → Type 0
  HandsOverAt old new handed =
      (client : Client S g) × (client_now : Client S g) × (old ≡ Open client)
      × (new ≡ Open client_now) × Visits client client_now handed

  -- ---- all places

  -- how many clients are open
  abbrev pub open_count : List (Place S g) → ℕ
  open_count places = count_by is_open places

  -- of how many more than 32 KiB may lie here
  abbrev pub large_count : List (Place S g) → ℕ
  large_count places = count_by is_large places

  -- its number in the line
  abbrev pub turn_at : List (Place S g) → ℕ → Option ℕ
  turn_at places k = option_and_then turn_of (slice_get places k)

  abbrev pub idle_at : List (Place S g) → ℕ → Option ℕ
  idle_at places k = option_and_then idle_since (slice_get places k)

  -- A client that waits has one of the numbers that were given; only the one of the visit that is begun is visited;
  -- and who can be visited waits.
  pub record IsRight (client : Client S g) (k next : ℕ) (present : Option ℕ) : Type 0 where
    pub numbered : (n : ℕ) → waiting_of client.turn ≡ Some n → n < next
    pub visited : client.turn ≡ Visited → present ≡ Some k
    pub stood : HasStood client

  -- that is so at each place
  abbrev pub AreRight : List (Place S g) → ℕ → Option ℕ → Type 0
  AreRight places next present =
      (k : ℕ) (client : Client S g) → slice_get places k ≡ Some (Open client) → IsRight client k next present

  -- Whoever is open was so, with the same counts; who waited and is open has the same number in the line; who waits has
  -- it from before, or has joined behind all.
  pub record KeepsPlace (old new : Place S g) (next : ℕ) : Type 0 where
    pub opens : is_open new ≡ true → is_open old ≡ true
    pub stays : (n : ℕ) → turn_of old ≡ Some n → is_open new ≡ true → turn_of new ≡ Some n
    pub line : (n : ℕ) → turn_of new ≡ Some n → (turn_of old ≡ Some n) ⊎ (next ≤ n)
    pub counts : is_open new ≡ true → counts_of new ≡ counts_of old

  pub record Keeps (places : List (Place S g)) (next : ℕ) (places_now : List (Place S g)) (next_now : ℕ) : Type 0 where
    pub rises : next ≤ next_now
    pub size : length places_now ≡ length places
    pub each : (k : ℕ) (old new : Place S g)
        → slice_get places k ≡ Some old → slice_get places_now k ≡ Some new → KeepsPlace old new next

  -- all places but one are as they were
  abbrev pub OnlyAt : List (Place S g) → List (Place S g) → ℕ → Type 0
  OnlyAt places places_now number = (k : ℕ) → k ≢ number → slice_get places_now k ≡ slice_get places k

  -- nobody waits with a lower number
  abbrev pub IsNext : List (Place S g) → ℕ → Type 0
  IsNext places number = (n : ℕ) × (turn_at places number ≡ Some n) × ((k m : ℕ) → turn_at places k ≡ Some m → n ≤ m)

  -- nobody is idle for longer
  abbrev pub IsLongestIdle : List (Place S g) → ℕ → Type 0
  IsLongestIdle places number =
      (t : ℕ) × (idle_at places number ≡ Some t) × ((k u : ℕ) → idle_at places k ≡ Some u → t ≤ u)

  -- the place of the client that is accepted next: the first that is free, or one more
  abbrev pub next_place : List (Place S g) → Option ℕ
  next_place places = place_among (position is_free places) (length places)

  -- the bytes of storage of all clients
  abbrev pub storage_at : List (Place S g) → ℕ
  storage_at places = sum_by storage_of places

  abbrev pub IsFullAt : List (Place S g) → ℕ → Type 0
  IsFullAt places number = (place : Place S g) × (slice_get places number ≡ Some place) × IsFull place

  abbrev pub IsClosedAt : List (Place S g) → ℕ → Type 0
  IsClosedAt places number = (place : Place S g) → slice_get places number ≡ Some place → is_open place ≡ false

  abbrev pub IsDoneAt : Event → ℕ → List (Place S g) → ℕ → Type 0
  IsDoneAt event now places number = (place : Place S g) → slice_get places number ≡ Some place → IsDone event now place

  -- the clients at the first n places are in time
  abbrev pub AreInTime : List (Place S g) → ℕ → Bool → ℕ → Type 0
  AreInTime places n is_over now =
      (k : ℕ) → k < n → (place : Place S g) → slice_get places k ≡ Some place → IsInTime place is_over now

  -- one is counted among the open ones less where the place was open and isn't, and one more where it was the other way
  abbrev pub IsCountedAt : List (Place S g) → List (Place S g) → ℕ → Type 0
  IsCountedAt places places_now number =
      (old new : Place S g) → slice_get places number ≡ Some old → slice_get places_now number ≡ Some new
      → open_count places_now + (if is_open old then 1 else 0) ≡ open_count places + (if is_open new then 1 else 0)

  abbrev pub IsQuietAt : List (Place S g) → ℕ → Type 0
  IsQuietAt places number = (place : Place S g) × (slice_get places number ≡ Some place) × IsQuiet place

  -- nothing has changed at those of the first n places whose clients are between two requests
  abbrev pub KeepsQuiet : List (Place S g) → List (Place S g) → ℕ → Type 0
  KeepsQuiet places places_now n = (k : ℕ) → k < n → IsQuietAt places k → slice_get places_now k ≡ slice_get places k

  -- somebody waits
  abbrev pub IsWaiting : List (Place S g) → Type 0
  IsWaiting places = (number : ℕ) × IsNext places number

  -- the one that is idle longest is ended, where as many are open as may be
  pub record EndsLongestIdle (places places_now : List (Place S g)) : Type 0 where
    pub number : ℕ
    pub full : open_count places ≡ 500
    pub longest : IsLongestIdle places number
    pub closed : IsClosedAt places_now number
    pub only : OnlyAt places places_now number

  -- one client more may be accepted
  pub record HasRoom (places : List (Place S g)) : Type 0 where
    pub few : open_count places < 500
    pub place : (length places < 512) ⊎ ((k : ℕ) × (slice_get places k ≡ Some Free))

  -- the visit that is begun hands over what the client at its place had first
  pub record BeginsAt (places places_now : List (Place S g)) (present : Option Visit) (number : ℕ) : Type 0 where
    pub client : Client S g
    pub client_now : Client S g
    pub visit : Visit
    pub was : slice_get places number ≡ Some (Open client)
    pub is : places_now ≡ slice_set places number (Open client_now)
    pub begun : present ≡ Some visit
    pub there : visit.number ≡ number
    pub at_first : visit.at ≡ 0
    pub hands_over : Visits client client_now visit.handed

  -- it lies at the place that was next, which was free, or at one more
  pub record IsPutAt (places places_now : List (Place S g)) (client : Client S g) (number : ℕ) : Type 0 where
    pub next : next_place places ≡ Some number
    pub is : ((slice_get places number ≡ Some Free) × (places_now ≡ slice_set places number (Open client)))
        ⊎ ((number ≡ length places) × (places_now ≡ places ++ Open client ∷ []))
    pub few : length places_now ≤ 512

  -- a client of which nothing has come is visited, with nothing handed over
  pub record Accepts (places places_now : List (Place S g)) (present : Option Visit) (number : ℕ) : Type 0 where
    pub client : Client S g
    pub visit : Visit
    pub put : IsPutAt places places_now client number
    pub nothing : client.inbox.bytes.items ≡ []
    pub none : counts_of (Open client) ≡ (0, 0)
    pub visited : client.turn ≡ Visited
    pub begun : present ≡ Some visit
    pub there : visit.number ≡ number
    pub empty : visit.handed.bytes.items ≡ []
