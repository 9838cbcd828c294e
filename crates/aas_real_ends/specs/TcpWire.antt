-- What a wire over TCP hands over. This profile's own rule.
use Rattle.std.specs.Prelude.{ℕ, List, [], Option, None, Some}
use Rattle.aas_clients.specs.Places.{open_count}
use Rattle.aas_clients.specs.Visits.{left_of}
use Rattle.aas_real_ends.specs.declared.clients.Clients.{Clients}

-- the bytes of the present visit that weren't taken
abbrev pub left_on : Option Clients → List ℕ
left_on None = []
left_on (Some clients) = left_of clients.table.present

-- how many clients are open
abbrev pub open_on : Option Clients → ℕ
open_on None = 0
open_on (Some clients) = open_count clients.table.places.items
