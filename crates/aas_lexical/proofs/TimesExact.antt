-- What is cut for a time is its form.
use Rattle.std.proofs.Common.{◌≡◌, ℕ, ◌↔◌, Bool, true, false, ◌&&◌, List, [], ◌∷◌, ◌++◌, Some, refl, arith, Decides, codes}
use Rattle.std.proofs.lemmas.Bool.Decides.{nat_tests, Decides-and, Decides-eqb}
use Rattle.std.specs.Char.{is_ascii_digit}
use Rattle.aas_lexical_forms.specs.Form.{among}
use Rattle.aas_lexical_forms.proofs.Begin.{Stops, Apart-among, Avoids-lit, Avoids-either, Needs-word, Needs-then}
use Rattle.aas_lexical_forms.proofs.Cuts.{Cuts, Anything, End, Cuts-lit, Cuts-run, Cuts-then, Cuts-next, Cuts-either, Cuts-either_by, Cuts-maybe, whole}
use Rattle.aas_lexical_forms.proofs.Values.{Reads-two_digits, Cuts-with, Cuts-such}
use Rattle.aas_lexical.specs.Dates.{zone}
use Rattle.aas_lexical.specs.Times.{fraction, is_zero, IsClock, IsMidnight, clock, time, moment, date_time, utc, utc_date_time}
use Rattle.aas_lexical.specs.Cut.Times.{after_fraction, is_clock, is_midnight, after_clock, after_time, after_moment, after_date_time, after_utc, after_utc_date_time}
use Rattle.aas_lexical.proofs.DatesExact.{le_decided, day_cuts, zone_cuts, zone_past}

-- ---- fractions

-- what may follow a fraction of such digits
abbrev pub FractionEnds : (ℕ → Bool) → List ℕ → Type 0
FractionEnds class z = Stops class z × Stops (among ".") z

pub fraction_cuts : (class : ℕ → Bool) → Cuts (fraction class) (FractionEnds class) (after_fraction class)
fraction_cuts class = Cuts-maybe (Cuts-next (Cuts-lit ".") (Cuts-run class)) (Needs-then (Needs-word 46 []) _) (λ z k. k)

-- ---- times of the day

and3 : {P Q R : Type 0} (x y z : Bool) → Decides x P → Decides y Q → Decides z R → Decides (x && y && z) (P × Q × R)
and3 x y z p q r = let both = Decides-and _ _ (Decides-and _ _ p q) r in (λ h. let w = both.0 h in (w.0.0, w.0.1, w.1), λ h. both.1 ((h.0, h.1), h.2))

clock_decided : (h m s : ℕ) → (is_clock h m s ≡ true) ↔ IsClock h m s
clock_decided h m s = and3 _ _ _ (le_decided h 23) (le_decided m 59) (le_decided s 59)

midnight_decided : (h m s : ℕ) → (is_midnight h m s ≡ true) ↔ IsMidnight h m s
midnight_decided h m s = and3 _ _ _ (Decides-eqb h 24) (Decides-eqb m 0) (Decides-eqb s 0)

zero_digit : (b : ℕ) → is_ascii_digit b ≡ false → is_zero b ≡ false
zero_digit b h = grind (arith, nat_tests)

zero_stops : (z : List ℕ) → Stops is_ascii_digit z → Stops is_zero z
zero_stops [] h = tt
zero_stops (b ∷ z) h = zero_digit b h

not_clock : (h m s : ℕ) → h ≡ 24 → is_clock h m s ≡ false
not_clock h m s e = rw e refl

clock_cuts : Cuts clock (FractionEnds is_ascii_digit) after_clock
clock_cuts = Cuts-with Reads-two_digits (λ h. Cuts-next (Cuts-lit ":") (Cuts-with Reads-two_digits (λ m. Cuts-next (Cuts-lit ":") (Cuts-with Reads-two_digits (λ s.
    Cuts-either_by
    (Cuts-next (Cuts-such (IsClock h m s) (is_clock h m s) (clock_decided h m s)) (fraction_cuts is_ascii_digit))
    (Cuts-next (Cuts-such (IsMidnight h m s) (is_midnight h m s) (midnight_decided h m s)) (fraction_cuts is_zero))
    {Next = FractionEnds is_ascii_digit}
    (λ y z k next. rw (not_clock h m s k.3.0.0) refl)
    (λ z k. (k, (zero_stops z k.0, k.1))))))))

-- ---- the types

-- a zone is fit to follow a fraction
zone_past_fraction : (y z : List ℕ) → zone y → End z → FractionEnds is_ascii_digit (y ++ z)
zone_past_fraction y z h k = (
  zone_past is_ascii_digit refl (Apart-among "+-" is_ascii_digit refl) y z h k,
  zone_past (among ".") refl (Apart-among "+-" (among ".") refl) y z h k,
)

pub time_exact : (t : List ℕ) → (after_time t ≡ Some []) ↔ time t
time_exact t = whole (Cuts-then clock_cuts zone_cuts zone_past_fraction) refl t

moment_cuts : Cuts moment (FractionEnds is_ascii_digit) after_moment
moment_cuts = Cuts-next day_cuts (Cuts-next (Cuts-lit "T") clock_cuts)

pub date_time_exact : (t : List ℕ) → (after_date_time t ≡ Some []) ↔ date_time t
date_time_exact t = whole (Cuts-then moment_cuts zone_cuts zone_past_fraction) refl t

utc_cuts : Cuts utc Anything after_utc
utc_cuts = Cuts-either (Cuts-lit "Z")
    (Cuts-either (Cuts-lit "+00:00") (Cuts-lit "-00:00") {Next = Anything} (Needs-word 43 (codes "00:00")) (Avoids-lit "-00:00" (among "+") (λ z. refl)) (λ z k. (tt, tt)))
    {Next = Anything} (Needs-word 90 []) (Avoids-either (Avoids-lit "+00:00" (among "Z") (λ z. refl)) (Avoids-lit "-00:00" (among "Z") (λ z. refl))) (λ z k. (tt, tt))

-- UTC begins with no byte of a class that has no `Z` and no sign
utc_past : (class : ℕ → Bool) → class 90 ≡ false → class 43 ≡ false → class 45 ≡ false → (y z : List ℕ) → utc y → Stops class (y ++ z)
utc_past class a b c y z h = (Avoids-either (Avoids-lit "Z" class (λ z. a)) (Avoids-either (Avoids-lit "+00:00" class (λ z. b)) (Avoids-lit "-00:00" class (λ z. c)))).avoids y z h

pub utc_date_time_exact : (t : List ℕ) → (after_utc_date_time t ≡ Some []) ↔ utc_date_time t
utc_date_time_exact t = whole (Cuts-then moment_cuts utc_cuts (λ y z h k. (utc_past is_ascii_digit refl refl refl y z h, utc_past (among ".") refl refl refl y z h))) tt t
