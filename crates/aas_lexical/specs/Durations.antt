-- Durations. XML Schema Part 2 (Second Edition), section 3.2.6.
use Rattle.std.specs.Prelude.{ℕ, List}
use Rattle.std.specs.Char.{is_ascii_digit}
use Rattle.aas_lexical_forms.specs.Form.{lit, run, maybe, nonempty, ◌▸◌}
use Rattle.aas_lexical.specs.Times.{fraction}

abbrev pub years : List ℕ → Type 0
years = run is_ascii_digit ▸ lit "Y"

abbrev pub months : List ℕ → Type 0
months = run is_ascii_digit ▸ lit "M"

abbrev pub days : List ℕ → Type 0
days = run is_ascii_digit ▸ lit "D"

abbrev pub hours : List ℕ → Type 0
hours = run is_ascii_digit ▸ lit "H"

abbrev pub minutes : List ℕ → Type 0
minutes = run is_ascii_digit ▸ lit "M"

abbrev pub seconds : List ℕ → Type 0
seconds = run is_ascii_digit ▸ fraction is_ascii_digit ▸ lit "S"

abbrev pub date_parts : List ℕ → Type 0
date_parts = maybe years ▸ maybe months ▸ maybe days

abbrev pub time_parts : List ℕ → Type 0
time_parts = maybe hours ▸ maybe minutes ▸ maybe seconds

-- an optional minus, `P`, and at least one part; where there is a `T`, at least one part stands behind it
abbrev pub duration : List ℕ → Type 0
duration = maybe (lit "-") ▸ lit "P" ▸ nonempty (date_parts ▸ maybe (lit "T" ▸ nonempty time_parts))
