-- The visit that is begun. This profile's own rule.
use Rattle.std.specs.Prelude.{◌≡◌, ◌-◌, ◌⊎◌, ℕ, nat_le, List, [], drop, Bool, true, false, Option, Some, None}
use Rattle.aas_clients.specs.declared.visit.Visit.{Visit}

-- the bytes of the visit that weren't taken
abbrev pub left_of : Option Visit → List ℕ
left_of None = []
left_of (Some visit) = drop visit.at visit.handed.bytes.items

-- the place of its client
abbrev pub number_of : Option Visit → Option ℕ
number_of None = None
number_of (Some visit) = Some visit.number

-- it hands over the same to the same client
abbrev pub IsSameVisit : Option Visit → Option Visit → Type 0
IsSameVisit None now = now ≡ None
IsSameVisit (Some visit) now =
    (visit_now : Visit) × (now ≡ Some visit_now) × (visit_now.number ≡ visit.number) × (visit_now.handed ≡ visit.handed)

-- Behind it its client is ended: nothing that follows can be answered, or the end wasn't told behind the last reply.
abbrev pub IsLast : Visit → Type 0
IsLast visit = (visit.handed.is_last ≡ true) ⊎ (visit.is_open ≡ false)

-- since when no further client may be begun, told now whether one may
abbrev pub since_last : Option ℕ → Bool → ℕ → Option ℕ
since_last since true now = None
since_last None false now = Some now
since_last (Some since) false now = Some since

-- whether no further client may be begun for a minute
abbrev pub is_over_at : Option ℕ → Bool → ℕ → Bool
is_over_at since true now = false
is_over_at None false now = false
is_over_at (Some since) false now = nat_le 60000 (now - since)
