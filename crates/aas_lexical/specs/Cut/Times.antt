-- What is cut for a time.
use Rattle.std.specs.Prelude.{ℕ, ◌==◌, ◌&&◌, nat_le, Bool, List, Option}
use Rattle.std.specs.Char.{is_ascii_digit}
use Rattle.aas_lexical_forms.specs.Cut.{after_lit, after_run, after_two_digits, cut_then, cut_maybe, cut_either, cut_with, cut_such}
use Rattle.aas_lexical.specs.Times.{is_zero}
use Rattle.aas_lexical.specs.Cut.Dates.{after_day, after_zone}

abbrev pub after_fraction : (ℕ → Bool) → List ℕ → Option (List ℕ)
after_fraction class = cut_maybe (cut_then (after_lit ".") (after_run class))

abbrev pub is_clock : ℕ → ℕ → ℕ → Bool
is_clock h m s = nat_le h 23 && nat_le m 59 && nat_le s 59

abbrev pub is_midnight : ℕ → ℕ → ℕ → Bool
is_midnight h m s = h == 24 && m == 0 && s == 0

abbrev pub after_clock : List ℕ → Option (List ℕ)
after_clock = cut_with after_two_digits (λ h. cut_then (after_lit ":") (cut_with after_two_digits (λ m. cut_then (after_lit ":") (cut_with after_two_digits (λ s.
    cut_either (cut_then (cut_such (is_clock h m s)) (after_fraction is_ascii_digit)) (cut_then (cut_such (is_midnight h m s)) (after_fraction is_zero)))))))

abbrev pub after_time : List ℕ → Option (List ℕ)
after_time = cut_then after_clock after_zone

abbrev pub after_moment : List ℕ → Option (List ℕ)
after_moment = cut_then after_day (cut_then (after_lit "T") after_clock)

abbrev pub after_date_time : List ℕ → Option (List ℕ)
after_date_time = cut_then after_moment after_zone

abbrev pub after_utc : List ℕ → Option (List ℕ)
after_utc = cut_either (after_lit "Z") (cut_either (after_lit "+00:00") (after_lit "-00:00"))

abbrev pub after_utc_date_time : List ℕ → Option (List ℕ)
after_utc_date_time = cut_then after_moment after_utc
