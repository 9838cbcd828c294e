-- What is cut for a duration is its form.
use Rattle.std.proofs.Common.{◌≡◌, ℕ, ◌↔◌, Bool, false, List, [], ◌++◌, Option, Some, None, refl, append_assoc, codes}
use Rattle.std.specs.Char.{is_ascii_digit}
use Rattle.aas_lexical_forms.specs.Form.{lit, among, run, maybe, nonempty, ◌▸◌}
use Rattle.aas_lexical_forms.specs.Cut.{after_lit, after_run, cut_then, cut_maybe}
use Rattle.aas_lexical_forms.proofs.Begin.{Stops, Avoids-lit, Avoids-then, Needs, Needs-run, Needs-word, Needs-then, past_maybe}
use Rattle.aas_lexical_forms.proofs.Cuts.{Cuts, Anything, End, Cuts-lit, Cuts-run, Cuts-then, Cuts-next, Cuts-apart, Cuts-maybe, Cuts-maybe_by, whole}
use Rattle.aas_lexical_forms.proofs.Repeat.{Cuts-nonempty}
use Rattle.aas_lexical_forms.proofs.Dodges.{Dodges, Dodges-maybe, Dodges-last, Dodges-run}
use Rattle.aas_lexical.specs.Times.{fraction}
use Rattle.aas_lexical.specs.Durations.{years, months, days, hours, minutes, seconds, date_parts, time_parts, duration}
use Rattle.aas_lexical.specs.Cut.Times.{after_fraction}
use Rattle.aas_lexical.specs.Cut.Durations.{after_years, after_months, after_days, after_hours, after_minutes, after_seconds, after_date_parts, after_time_parts, after_marked_time_parts, after_parts, after_duration}
use Rattle.aas_lexical.proofs.TimesExact.{fraction_cuts}
use Prim.Native.String.{String}

-- ---- a part with a letter

-- digits and a letter
part_cuts : (letter : String) → ((z : List ℕ) → Stops is_ascii_digit (codes letter ++ z)) → Cuts (run is_ascii_digit ▸ lit letter) Anything (cut_then (after_run is_ascii_digit) (after_lit letter))
part_cuts letter k = Cuts-apart (Cuts-run is_ascii_digit) (Cuts-lit letter) (Avoids-lit letter is_ascii_digit k)

-- where digits and another letter stand, no part is found
part_dodges : (other letter : String) (class : ℕ → Bool) → ((z : List ℕ) → Stops is_ascii_digit (codes other ++ z)) → ((z : List ℕ) → Stops class (codes other ++ z)) → Needs class (after_lit letter)
    → Dodges (run is_ascii_digit ▸ lit other) Anything (cut_then (after_run is_ascii_digit) (after_lit letter))
part_dodges other letter class j k n = Dodges-run (Avoids-lit other is_ascii_digit j) (Avoids-lit other class k) n

no_part : (q : List ℕ → Option (List ℕ)) (z : List ℕ) → Stops is_ascii_digit z → cut_then (after_run is_ascii_digit) q z ≡ None
no_part q z h = (Needs-then (Needs-run is_ascii_digit) q).fails z h

years_cuts : Cuts years Anything after_years
years_cuts = part_cuts "Y" (λ z. refl)

months_cuts : Cuts months Anything after_months
months_cuts = part_cuts "M" (λ z. refl)

days_cuts : Cuts days Anything after_days
days_cuts = part_cuts "D" (λ z. refl)

hours_cuts : Cuts hours Anything after_hours
hours_cuts = part_cuts "H" (λ z. refl)

months_no_years : Dodges months Anything after_years
months_no_years = part_dodges "M" "Y" (among "Y") (λ z. refl) (λ z. refl) (Needs-word 89 [])

days_no_years : Dodges days Anything after_years
days_no_years = part_dodges "D" "Y" (among "Y") (λ z. refl) (λ z. refl) (Needs-word 89 [])

days_no_months : Dodges days Anything after_months
days_no_months = part_dodges "D" "M" (among "M") (λ z. refl) (λ z. refl) (Needs-word 77 [])

minutes_no_hours : Dodges minutes Anything after_hours
minutes_no_hours = part_dodges "M" "H" (among "H") (λ z. refl) (λ z. refl) (Needs-word 72 [])

date_parts_cuts : Cuts date_parts (Stops is_ascii_digit) after_date_parts
date_parts_cuts =
    Cuts-then (Cuts-maybe_by years_cuts {Next = λ z. after_years z ≡ None} (λ z k. (tt, k)))
    (Cuts-then (Cuts-maybe_by months_cuts {Next = λ z. after_months z ≡ None} (λ z k. (tt, k)))
    (Cuts-maybe_by days_cuts {Next = Stops is_ascii_digit} (λ z k. (tt, no_part (after_lit "D") z k)))
    (λ y z h k. (Dodges-last {Next = Stops is_ascii_digit} days_no_months (no_part (after_lit "M"))).none_at y z h k))
    (λ y z h k. (Dodges-maybe months_no_years (Dodges-last {Next = Stops is_ascii_digit} days_no_years (no_part (after_lit "Y")))).none_at y z h k)

-- ---- seconds

-- a fraction, which may be left out, and `S` begin with no byte of the class
fraction_no : (class : ℕ → Bool) → class 46 ≡ false → class 83 ≡ false → (y z : List ℕ) → (fraction is_ascii_digit ▸ lit "S") y → Stops class (y ++ z)
fraction_no class p s y z h = rw (h.2, append_assoc) (past_maybe (Avoids-then (Avoids-lit "." class (λ z. p))) h.0 (h.1 ++ z) h.3 ((Avoids-lit "S" class (λ z. s)).avoids h.1 z h.4))

second_cuts : Cuts (fraction is_ascii_digit ▸ lit "S") Anything (cut_then (after_fraction is_ascii_digit) (after_lit "S"))
second_cuts = Cuts-then (fraction_cuts is_ascii_digit) (Cuts-lit "S") (λ y z h k. (
  (Avoids-lit "S" is_ascii_digit (λ z. refl)).avoids y z h,
  (Avoids-lit "S" (among ".") (λ z. refl)).avoids y z h,
))

seconds_cuts : Cuts seconds Anything after_seconds
seconds_cuts = Cuts-then (Cuts-run is_ascii_digit) second_cuts (λ y z h k. fraction_no is_ascii_digit refl refl y z h)

seconds_dodges : (letter : String) (class : ℕ → Bool) → class 46 ≡ false → class 83 ≡ false → Needs class (after_lit letter) → Dodges seconds Anything (cut_then (after_run is_ascii_digit) (after_lit letter))
seconds_dodges letter class p s n = Dodges-run (record { avoids = fraction_no is_ascii_digit refl refl }) (record { avoids = fraction_no class p s }) n

seconds_no_hours : Dodges seconds Anything after_hours
seconds_no_hours = seconds_dodges "H" (among "H") refl refl (Needs-word 72 [])

seconds_no_minutes : Dodges seconds Anything after_minutes
seconds_no_minutes = seconds_dodges "M" (among "M") refl refl (Needs-word 77 [])

time_parts_cuts : Cuts time_parts (Stops is_ascii_digit) after_time_parts
time_parts_cuts =
    Cuts-then (Cuts-maybe_by hours_cuts {Next = λ z. after_hours z ≡ None} (λ z k. (tt, k)))
    (Cuts-then (Cuts-maybe_by months_cuts {Next = λ z. after_minutes z ≡ None} (λ z k. (tt, k)))
    (Cuts-maybe_by seconds_cuts {Next = Stops is_ascii_digit} (λ z k. (tt, no_part _ z k)))
    (λ y z h k. (Dodges-last {Next = Stops is_ascii_digit} seconds_no_minutes (no_part (after_lit "M"))).none_at y z h k))
    (λ y z h k. (Dodges-maybe minutes_no_hours (Dodges-last {Next = Stops is_ascii_digit} seconds_no_hours (no_part (after_lit "H")))).none_at y z h k)

-- ---- the whole

marked_cuts : Cuts (lit "T" ▸ nonempty time_parts) (Stops is_ascii_digit) after_marked_time_parts
marked_cuts = Cuts-next (Cuts-lit "T") (Cuts-nonempty time_parts_cuts)

parts_cuts : Cuts (nonempty (date_parts ▸ maybe (lit "T" ▸ nonempty time_parts))) End after_parts
parts_cuts = Cuts-nonempty (Cuts-then date_parts_cuts
    (Cuts-maybe marked_cuts {class = among "T"} {Next = End} (Needs-then (Needs-word 84 []) _) (λ z k. (rw k tt, rw k tt)))
    (λ y z h k. past_maybe (Avoids-then (Avoids-lit "T" is_ascii_digit (λ z. refl))) y z h (rw k tt)))

minus_cuts : Cuts (maybe (lit "-")) (Stops (among "-")) (cut_maybe (after_lit "-"))
minus_cuts = Cuts-maybe (Cuts-lit "-") {class = among "-"} (Needs-word 45 []) (λ z k. (tt, k))

duration_cuts : Cuts duration End after_duration
duration_cuts = Cuts-apart minus_cuts (Cuts-next (Cuts-lit "P") parts_cuts) (Avoids-then (Avoids-lit "P" (among "-") (λ z. refl)))

pub duration_exact : (t : List ℕ) → (after_duration t ≡ Some []) ↔ duration t
duration_exact t = whole duration_cuts refl t
