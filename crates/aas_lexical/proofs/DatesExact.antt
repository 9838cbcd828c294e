-- What is cut for a day is its form.
use Rattle.std.proofs.Common.{◌≡◌, ℕ, ◌↔◌, ◌≤◌, Bool, true, false, ◌&&◌, nat_le, List, [], ◌++◌, Option, Some, refl, arith, Decides, pos}
use Rattle.std.proofs.lemmas.Bool.Decides.{nat_tests, Decides-and, Decides-or, Decides-eqb}
use Rattle.jiff_core.specs.Calendar.{IsDate}
use Rattle.aas_lexical_forms.specs.Form.{lit, among, one, digits, such, ◌▸◌, ◌▸=◌}
use Rattle.aas_lexical_forms.specs.Cut.{after_lit, after_two_digits, cut_then, cut_with, cut_such}
use Rattle.aas_lexical_forms.proofs.Begin.{Stops, Apart, Apart-among, Avoids, Avoids-one, Avoids-lit, Avoids-then, Avoids-either, Needs-word, past_maybe}
use Rattle.aas_lexical_forms.proofs.Cuts.{Cuts, Anything, End, Cuts-lit, Cuts-one, Cuts-next, Cuts-either, Cuts-maybe_by, whole}
use Rattle.aas_lexical_forms.proofs.Values.{Reads-two_digits, Reads-four_digits, Cuts-with, Cuts-such}
use Rattle.aas_lexical.specs.Numbers.{is_sign}
use Rattle.aas_lexical.specs.Dates.{IsOffset, zone, day, date, g_year_month, g_year, g_month_day, g_day, g_month}
use Rattle.aas_lexical.specs.Cut.Dates.{is_offset, after_offset, after_zone, is_day, after_day, after_date, after_g_year_month, after_g_year, after_g_month_day, after_g_day, after_g_month}

pub le_decided : (a b : ℕ) → Decides (nat_le a b) (a ≤ b)
le_decided a b = (λ h. grind (arith, nat_tests), λ h. grind (arith, nat_tests))

-- ---- zones

offset_decided : (h m : ℕ) → (is_offset h m ≡ true) ↔ IsOffset h m
offset_decided h m = Decides-or _ _ (Decides-and _ _ (le_decided h 13) (le_decided m 59)) (Decides-and _ _ (Decides-eqb h 14) (Decides-eqb m 0))

offset_cuts : Cuts (digits 2 ▸= λ h. lit ":" ▸ (digits 2 ▸= λ m. such (IsOffset h m))) Anything after_offset
offset_cuts = Cuts-with Reads-two_digits (λ h. Cuts-next (Cuts-lit ":") (Cuts-with Reads-two_digits (λ m. Cuts-such (IsOffset h m) (is_offset h m) (offset_decided h m))))

sign_no_z : Avoids (one is_sign) (among "Z")
sign_no_z = Avoids-one is_sign (among "Z") (Apart-among "+-" (among "Z") refl)

pub zone_cuts : Cuts zone End after_zone
zone_cuts = Cuts-maybe_by
    (Cuts-either (Cuts-lit "Z") (Cuts-next (Cuts-one is_sign) offset_cuts) {Next = Anything} (Needs-word 90 []) (Avoids-then sign_no_z) (λ z k. (tt, tt)))
    (λ z k. (tt, rw k refl))

-- a zone begins with no byte of a class that has no `Z` and no sign
pub zone_past : (class : ℕ → Bool) → class 90 ≡ false → Apart is_sign class → (y z : List ℕ) → zone y → End z → Stops class (y ++ z)
zone_past class a b y z h k = past_maybe (Avoids-either (Avoids-lit "Z" class (λ z. a)) (Avoids-then (Avoids-one is_sign class b))) y z h (rw k tt)

-- ---- days

day_decided : (y m d : ℕ) → (is_day y m d ≡ true) ↔ IsDate (pos y) (pos m) (pos d)
day_decided y m d = grind (arith, nat_tests)

such_day_cuts : (y m : ℕ) → Cuts (digits 2 ▸= λ d. such (IsDate (pos y) (pos m) (pos d))) Anything (cut_with after_two_digits (λ d. cut_such (is_day y m d)))
such_day_cuts y m = Cuts-with Reads-two_digits (λ d. Cuts-such (IsDate (pos y) (pos m) (pos d)) (is_day y m d) (day_decided y m d))

month_and_day_cuts : (y : ℕ) → Cuts (digits 2 ▸= λ m. lit "-" ▸ (digits 2 ▸= λ d. such (IsDate (pos y) (pos m) (pos d)))) Anything
    (cut_with after_two_digits (λ m. cut_then (after_lit "-") (cut_with after_two_digits (λ d. cut_such (is_day y m d)))))
month_and_day_cuts y = Cuts-with Reads-two_digits (λ m. Cuts-next (Cuts-lit "-") (such_day_cuts y m))

pub day_cuts : Cuts day Anything after_day
day_cuts = Cuts-with Reads-four_digits (λ y. Cuts-next (Cuts-lit "-") (month_and_day_cuts y))

between_cuts : (low high : ℕ) → Cuts (digits 2 ▸= λ n. such ((low ≤ n) × (n ≤ high))) Anything (cut_with after_two_digits (λ n. cut_such (nat_le low n && nat_le n high)))
between_cuts low high = Cuts-with Reads-two_digits (λ n. Cuts-such ((low ≤ n) × (n ≤ high)) (nat_le low n && nat_le n high) (Decides-and _ _ (le_decided low n) (le_decided n high)))

-- ---- the types

pub zoned : {A : List ℕ → Type 0} {p : List ℕ → Option (List ℕ)} → Cuts A Anything p → Cuts (A ▸ zone) End (cut_then p after_zone)
zoned a = Cuts-next a zone_cuts

pub date_exact : (t : List ℕ) → (after_date t ≡ Some []) ↔ date t
date_exact t = whole (zoned day_cuts) refl t

pub g_year_month_exact : (t : List ℕ) → (after_g_year_month t ≡ Some []) ↔ g_year_month t
g_year_month_exact t = whole (Cuts-with Reads-four_digits (λ y. Cuts-next (Cuts-lit "-") (zoned (between_cuts 1 12)))) refl t

pub g_year_exact : (t : List ℕ) → (after_g_year t ≡ Some []) ↔ g_year t
g_year_exact t = whole (Cuts-with Reads-four_digits (λ y. zone_cuts)) refl t

pub g_month_day_exact : (t : List ℕ) → (after_g_month_day t ≡ Some []) ↔ g_month_day t
g_month_day_exact t = whole (Cuts-next (Cuts-lit "--") (zoned (month_and_day_cuts 2000))) refl t

pub g_day_exact : (t : List ℕ) → (after_g_day t ≡ Some []) ↔ g_day t
g_day_exact t = whole (Cuts-next (Cuts-lit "---") (zoned (between_cuts 1 31))) refl t

pub g_month_exact : (t : List ℕ) → (after_g_month t ≡ Some []) ↔ g_month t
g_month_exact t = whole (Cuts-next (Cuts-lit "--") (zoned (between_cuts 1 12))) refl t
