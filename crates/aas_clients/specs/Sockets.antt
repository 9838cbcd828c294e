-- What a socket does with bytes. This profile's own rule.
use Rattle.std.specs.Prelude.{◌≡◌, ◌≤◌, ℕ, List, ◌++◌, length, take, Option}
use Rattle.std.specs.Io.KnownBytes.{append_known}
use Rattle.aas_clients.specs.declared.socket.Found.{Found}
use Rattle.aas_clients.specs.declared.socket.Found.TheVariants as found
use Rattle.aas_clients.specs.declared.socket.WriteOutcome.{WriteOutcome}
use Rattle.aas_clients.specs.declared.socket.WriteOutcome.TheVariants as given

-- What a socket has told in all, where it says so: with a piece more where a read found one, the piece
-- then standing at the front of the buffer.
abbrev pub Reads : Option (List ℕ) → Option (List ℕ) → Found → List ℕ → Type 0
Reads old new (found.Bytes n) buf = (n ≤ length buf) × (new ≡ append_known old (take n buf))
Reads old new found.NotNow buf = new ≡ old
Reads old new found.End buf = new ≡ old
Reads old new found.Failed buf = new ≡ old

-- What a socket was given in all, where it says so: with a front of these bytes more, where it took one.
abbrev pub Takes : Option (List ℕ) → Option (List ℕ) → WriteOutcome → List ℕ → Type 0
Takes old new (given.Bytes n) bytes = (n ≤ length bytes) × (new ≡ append_known old (take n bytes))
Takes old new given.NotNow bytes = new ≡ old
Takes old new given.Failed bytes = new ≡ old

-- A piece came in, of so many bytes at most: the socket has told it, and it stands behind the others.
abbrev pub ComesIn : Option (List ℕ) → Option (List ℕ) → List ℕ → List ℕ → ℕ → Type 0
ComesIn told told_now inbox inbox_now room =
    (piece : List ℕ) × (told_now ≡ append_known told piece) × (inbox_now ≡ inbox ++ piece) × (length piece ≤ room)

-- not more than there is
abbrev pub GivenWithin : WriteOutcome → List ℕ → Type 0
GivenWithin (given.Bytes n) bytes = n ≤ length bytes
GivenWithin given.NotNow bytes = Unit {0}
GivenWithin given.Failed bytes = Unit {0}
