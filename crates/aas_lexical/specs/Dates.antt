-- Days and their parts. XML Schema Part 2 (Second Edition), sections 3.2.9 to 3.2.14. That a year has four digits and no
-- sign, and that the year 0000 is one, is this profile's own rule.
use Rattle.std.specs.Prelude.{◌≡◌, ℕ, ◌≤◌, ◌⊎◌, List, pos}
use Rattle.jiff.specs.Words.{IsDate}
use Rattle.aas_lexical_forms.specs.Form.{lit, one, maybe, digits, such, ◌∣◌, ◌▸◌, ◌▸=◌}
use Rattle.aas_lexical.specs.Numbers.{is_sign}

-- hours and minutes by which a zone differs from UTC
abbrev pub IsOffset : ℕ → ℕ → Type 0
IsOffset h m = ((h ≤ 13) × (m ≤ 59)) ⊎ ((h ≡ 14) × (m ≡ 0))

-- 3.2.7.3: nothing, `Z`, or a sign and `hh:mm`
abbrev pub zone : List ℕ → Type 0
zone = maybe (lit "Z" ∣ (one is_sign ▸ (digits 2 ▸= λ h. lit ":" ▸ (digits 2 ▸= λ m. such (IsOffset h m)))))

-- `yyyy-mm-dd` that is a day of the Gregorian calendar
abbrev pub day : List ℕ → Type 0
day = digits 4 ▸= λ y. lit "-" ▸ (digits 2 ▸= λ m. lit "-" ▸ (digits 2 ▸= λ d. such (IsDate (pos y) (pos m) (pos d))))

-- `mm-dd`, a day that the month has in a leap year
abbrev pub day_of_leap_year : List ℕ → Type 0
day_of_leap_year = digits 2 ▸= λ m. lit "-" ▸ (digits 2 ▸= λ d. such (IsDate (pos 2000) (pos m) (pos d)))

abbrev pub month : List ℕ → Type 0
month = digits 2 ▸= λ m. such ((1 ≤ m) × (m ≤ 12))

abbrev pub day_of_month : List ℕ → Type 0
day_of_month = digits 2 ▸= λ d. such ((1 ≤ d) × (d ≤ 31))

-- 3.2.9 date
abbrev pub date : List ℕ → Type 0
date = day ▸ zone

-- 3.2.10 gYearMonth
abbrev pub g_year_month : List ℕ → Type 0
g_year_month = digits 4 ▸= λ y. lit "-" ▸ month ▸ zone

-- 3.2.11 gYear
abbrev pub g_year : List ℕ → Type 0
g_year = digits 4 ▸= λ y. zone

-- 3.2.12 gMonthDay
abbrev pub g_month_day : List ℕ → Type 0
g_month_day = lit "--" ▸ day_of_leap_year ▸ zone

-- 3.2.13 gDay
abbrev pub g_day : List ℕ → Type 0
g_day = lit "---" ▸ day_of_month ▸ zone

-- 3.2.14 gMonth
abbrev pub g_month : List ℕ → Type 0
g_month = lit "--" ▸ month ▸ zone
