-- Times of the day, and moments. XML Schema Part 2 (Second Edition), sections 3.2.7 and 3.2.8.
use Rattle.std.specs.Prelude.{◌≡◌, ℕ, ◌≤◌, Bool, List}
use Rattle.std.specs.Char.{is_ascii_digit}
use Rattle.aas_lexical_forms.specs.Form.{lit, among, run, maybe, digits, such, ◌∣◌, ◌▸◌, ◌▸=◌}
use Rattle.aas_lexical.specs.Dates.{day, zone}

-- nothing, or a point and digits of the class
abbrev pub fraction : (ℕ → Bool) → List ℕ → Type 0
fraction class = maybe (lit "." ▸ run class)

abbrev pub is_zero : ℕ → Bool
is_zero = among "0"

abbrev pub IsClock : ℕ → ℕ → ℕ → Type 0
IsClock h m s = (h ≤ 23) × (m ≤ 59) × (s ≤ 59)

-- the end of the day
abbrev pub IsMidnight : ℕ → ℕ → ℕ → Type 0
IsMidnight h m s = (h ≡ 24) × (m ≡ 0) × (s ≡ 0)

-- `hh:mm:ss` with a fraction of the second, or `24:00:00`, whose fraction has only zeros
abbrev pub clock : List ℕ → Type 0
clock = digits 2 ▸= λ h. lit ":" ▸ (digits 2 ▸= λ m. lit ":" ▸ (digits 2 ▸= λ s.
    (such (IsClock h m s) ▸ fraction is_ascii_digit) ∣ (such (IsMidnight h m s) ▸ fraction is_zero)))

-- 3.2.8 time
abbrev pub time : List ℕ → Type 0
time = clock ▸ zone

-- a day, and a time of it
abbrev pub moment : List ℕ → Type 0
moment = day ▸ lit "T" ▸ clock

-- 3.2.7 dateTime
abbrev pub date_time : List ℕ → Type 0
date_time = moment ▸ zone

-- UTC: any of the zones whose offset is zero
abbrev pub utc : List ℕ → Type 0
utc = lit "Z" ∣ lit "+00:00" ∣ lit "-00:00"

-- a dateTime in UTC, as lastUpdate of a BasicEventElement has to be: IDTA-01001-3-0, BasicEventElement
abbrev pub utc_date_time : List ℕ → Type 0
utc_date_time = moment ▸ utc
