-- What is cut for a day.
use Rattle.std.specs.Prelude.{ℕ, ◌==◌, ◌&&◌, ◌||◌, nat_le, Bool, List, Option, pos}
use Rattle.jiff.specs.Words.{days_in_month}
use Rattle.aas_lexical_forms.specs.Cut.{after_lit, after_one, after_two_digits, after_four_digits, cut_then, cut_maybe, cut_either, cut_with, cut_such}
use Rattle.aas_lexical.specs.Numbers.{is_sign}

abbrev pub is_offset : ℕ → ℕ → Bool
is_offset h m = (nat_le h 13 && nat_le m 59) || (h == 14 && m == 0)

abbrev pub after_offset : List ℕ → Option (List ℕ)
after_offset = cut_with after_two_digits (λ h. cut_then (after_lit ":") (cut_with after_two_digits (λ m. cut_such (is_offset h m))))

abbrev pub after_zone : List ℕ → Option (List ℕ)
after_zone = cut_maybe (cut_either (after_lit "Z") (cut_then (after_one is_sign) after_offset))

abbrev pub is_day : ℕ → ℕ → ℕ → Bool
is_day y m d = nat_le y 9999 && nat_le 1 m && nat_le m 12 && nat_le 1 d && nat_le d (days_in_month (pos y) m)

abbrev pub after_day : List ℕ → Option (List ℕ)
after_day = cut_with after_four_digits (λ y. cut_then (after_lit "-") (cut_with after_two_digits (λ m. cut_then (after_lit "-") (cut_with after_two_digits (λ d. cut_such (is_day y m d))))))

abbrev pub after_day_of_leap_year : List ℕ → Option (List ℕ)
after_day_of_leap_year = cut_with after_two_digits (λ m. cut_then (after_lit "-") (cut_with after_two_digits (λ d. cut_such (is_day 2000 m d))))

abbrev pub after_month : List ℕ → Option (List ℕ)
after_month = cut_with after_two_digits (λ m. cut_such (nat_le 1 m && nat_le m 12))

abbrev pub after_day_of_month : List ℕ → Option (List ℕ)
after_day_of_month = cut_with after_two_digits (λ d. cut_such (nat_le 1 d && nat_le d 31))

abbrev pub after_date : List ℕ → Option (List ℕ)
after_date = cut_then after_day after_zone

abbrev pub after_g_year_month : List ℕ → Option (List ℕ)
after_g_year_month = cut_with after_four_digits (λ y. cut_then (after_lit "-") (cut_then after_month after_zone))

abbrev pub after_g_year : List ℕ → Option (List ℕ)
after_g_year = cut_with after_four_digits (λ y. after_zone)

abbrev pub after_g_month_day : List ℕ → Option (List ℕ)
after_g_month_day = cut_then (after_lit "--") (cut_then after_day_of_leap_year after_zone)

abbrev pub after_g_day : List ℕ → Option (List ℕ)
after_g_day = cut_then (after_lit "---") (cut_then after_day_of_month after_zone)

abbrev pub after_g_month : List ℕ → Option (List ℕ)
after_g_month = cut_then (after_lit "--") (cut_then after_month after_zone)
