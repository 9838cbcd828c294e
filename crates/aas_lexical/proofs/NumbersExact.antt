-- What is cut for a number is its form.
use Rattle.std.proofs.Common.{◌≡◌, ℕ, ◌↔◌, Bool, false, List, [], Some, refl}
use Rattle.std.specs.Char.{is_ascii_digit}
use Rattle.aas_lexical_forms.specs.Form.{lit, among, any, run, maybe, ◌∣◌, ◌▸◌}
use Rattle.aas_lexical_forms.specs.Cut.{after_lit, after_any, after_run, cut_all, cut_then, cut_maybe, cut_either}
use Rattle.aas_lexical_forms.proofs.Begin.{Stops, Apart, Apart-among, Apart-swap, Avoids, Avoids-one, Avoids-run, Avoids-lit, Avoids-then, Avoids-either, Needs-one, Needs-run, Needs-word, Needs-then, past_maybe}
use Rattle.aas_lexical_forms.proofs.Cuts.{Cuts, Cuts-lit, Cuts-one, Cuts-any, Cuts-run, Cuts-then, Cuts-next, Cuts-apart, Cuts-either, Cuts-maybe, Cuts-maybe_one, whole}
use Rattle.aas_lexical.specs.Numbers.{is_sign, is_exponent_mark, decimal, exponent, decimal_with_exponent, integer}
use Rattle.aas_lexical.specs.Cut.Numbers.{after_decimal, after_exponent, after_decimal_with_exponent, after_integer}

pub digits_no_sign : Apart is_ascii_digit is_sign
digits_no_sign = Apart-swap is_sign is_ascii_digit (Apart-among "+-" is_ascii_digit refl)

point_no : (class : ℕ → Bool) → class 46 ≡ false → Avoids (lit ".") class
point_no class k = Avoids-lit "." class (λ z. k)

-- what may follow a number
abbrev NumberEnds : List ℕ → Type 0
NumberEnds z = Stops is_ascii_digit z × Stops (among ".") z

fraction_cuts : Cuts (maybe (lit "." ▸ any is_ascii_digit)) NumberEnds (cut_maybe (cut_then (after_lit ".") (cut_all (after_any is_ascii_digit))))
fraction_cuts = Cuts-maybe (Cuts-next (Cuts-lit ".") (Cuts-any is_ascii_digit)) (Needs-then (Needs-word 46 []) _) (λ z k. k)

unsigned_cuts : Cuts ((run is_ascii_digit ▸ maybe (lit "." ▸ any is_ascii_digit)) ∣ (lit "." ▸ run is_ascii_digit)) NumberEnds
    (cut_either (cut_then (after_run is_ascii_digit) (cut_maybe (cut_then (after_lit ".") (cut_all (after_any is_ascii_digit)))))
    (cut_then (after_lit ".") (after_run is_ascii_digit)))
unsigned_cuts = Cuts-either
    (Cuts-then (Cuts-run is_ascii_digit) fraction_cuts (λ y z h k. past_maybe (Avoids-then (point_no is_ascii_digit refl)) y z h k.0))
    (Cuts-next (Cuts-lit ".") (Cuts-run is_ascii_digit))
    (Needs-then (Needs-run is_ascii_digit) _)
    (Avoids-then (point_no is_ascii_digit refl))
    (λ z k. (k, k.0))

decimal_cuts : Cuts decimal NumberEnds after_decimal
decimal_cuts = Cuts-apart (Cuts-maybe_one is_sign) unsigned_cuts
    (Avoids-either (Avoids-then (Avoids-run is_ascii_digit is_sign digits_no_sign)) (Avoids-then (point_no is_sign refl)))

pub decimal_exact : (t : List ℕ) → (after_decimal t ≡ Some []) ↔ decimal t
decimal_exact t = whole decimal_cuts (tt, tt) t

exponent_cuts : Cuts exponent (Stops is_ascii_digit) after_exponent
exponent_cuts = Cuts-next (Cuts-one is_exponent_mark) (Cuts-apart (Cuts-maybe_one is_sign) (Cuts-run is_ascii_digit) (Avoids-run is_ascii_digit is_sign digits_no_sign))

-- an exponent begins with no byte of the class
exponent_no : (class : ℕ → Bool) → Apart is_exponent_mark class → Avoids exponent class
exponent_no class k = Avoids-then (Avoids-one is_exponent_mark class k)

abbrev ExponentEnds : List ℕ → Type 0
ExponentEnds z = NumberEnds z × Stops is_exponent_mark z

decimal_with_exponent_cuts : Cuts decimal_with_exponent ExponentEnds after_decimal_with_exponent
decimal_with_exponent_cuts = Cuts-then decimal_cuts (Cuts-maybe exponent_cuts {Next = ExponentEnds} (Needs-then (Needs-one is_exponent_mark) _) (λ z k. (k.0.0, k.1)))
    (λ y z h k. (
      past_maybe (exponent_no is_ascii_digit (Apart-among "eE" is_ascii_digit refl)) y z h k.0.0,
      past_maybe (exponent_no (among ".") (Apart-among "eE" (among ".") refl)) y z h k.0.1,
    ))

pub decimal_with_exponent_exact : (t : List ℕ) → (after_decimal_with_exponent t ≡ Some []) ↔ decimal_with_exponent t
decimal_with_exponent_exact t = whole decimal_with_exponent_cuts ((tt, tt), tt) t

integer_cuts : Cuts integer (Stops is_ascii_digit) after_integer
integer_cuts = Cuts-apart (Cuts-maybe_one is_sign) (Cuts-run is_ascii_digit) (Avoids-run is_ascii_digit is_sign digits_no_sign)

pub integer_exact : (t : List ℕ) → (after_integer t ≡ Some []) ↔ integer t
integer_exact t = whole integer_cuts tt t
