-- What is cut for a duration.
use Rattle.std.specs.Prelude.{ℕ, List, Option}
use Rattle.std.specs.Char.{is_ascii_digit}
use Rattle.aas_lexical_forms.specs.Cut.{after_word, after_lit, after_run, cut_then, cut_maybe, cut_nonempty}
use Rattle.aas_lexical.specs.Cut.Times.{after_fraction}

-- digits and the letter of a part
abbrev pub after_part : List ℕ → List ℕ → Option (List ℕ)
after_part letter = cut_then (after_run is_ascii_digit) (after_word letter)

abbrev pub after_years : List ℕ → Option (List ℕ)
after_years = cut_then (after_run is_ascii_digit) (after_lit "Y")

abbrev pub after_months : List ℕ → Option (List ℕ)
after_months = cut_then (after_run is_ascii_digit) (after_lit "M")

abbrev pub after_days : List ℕ → Option (List ℕ)
after_days = cut_then (after_run is_ascii_digit) (after_lit "D")

abbrev pub after_hours : List ℕ → Option (List ℕ)
after_hours = cut_then (after_run is_ascii_digit) (after_lit "H")

abbrev pub after_minutes : List ℕ → Option (List ℕ)
after_minutes = cut_then (after_run is_ascii_digit) (after_lit "M")

abbrev pub after_seconds : List ℕ → Option (List ℕ)
after_seconds = cut_then (after_run is_ascii_digit) (cut_then (after_fraction is_ascii_digit) (after_lit "S"))

abbrev pub after_date_parts : List ℕ → Option (List ℕ)
after_date_parts = cut_then (cut_maybe after_years) (cut_then (cut_maybe after_months) (cut_maybe after_days))

abbrev pub after_time_parts : List ℕ → Option (List ℕ)
after_time_parts = cut_then (cut_maybe after_hours) (cut_then (cut_maybe after_minutes) (cut_maybe after_seconds))

abbrev pub after_marked_time_parts : List ℕ → Option (List ℕ)
after_marked_time_parts = cut_then (after_lit "T") (cut_nonempty after_time_parts)

abbrev pub after_parts : List ℕ → Option (List ℕ)
after_parts = cut_nonempty (cut_then after_date_parts (cut_maybe after_marked_time_parts))

abbrev pub after_duration : List ℕ → Option (List ℕ)
after_duration = cut_then (cut_maybe (after_lit "-")) (cut_then (after_lit "P") after_parts)
