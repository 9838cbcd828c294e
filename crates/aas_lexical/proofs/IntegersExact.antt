-- An integer is a text that std reads as one, and what lies beyond 128 bits lies beyond every bound.
use Rattle.std.proofs.Common.{◌≡◌, ℕ, ◌==◌, ◌||◌, ◌&&◌, ◌<◌, ◌≤◌, ◌^◌, nat_lt, ◌↔◌, Decides, IsTrue, to_z, of_z, Bool, true, false, cond, drop, List, [], ◌∷◌, Some, None, refl, arith, FitsSigned, if◌then◌else◌}
use Rattle.std.proofs.lemmas.Bool.Decides.{nat_tests, Decides-and}
use Rattle.std.proofs.lemmas.Int.{ints, fits_signed_from_abs, to_z-of_z}
use Rattle.std.proofs.lemmas.Bool.{ltb-true, and_parts}
use Rattle.std.specs.Int.RustNames.{unsigned_abs}
use lib.Signed.{le_z}
use Rattle.std.specs.Prelude.{ℤ, pos, ◌≤ℤ◌}
use Rattle.std.specs.Int.{w128}
use Rattle.std.specs.Char.{is_ascii_digit, digit_value}
use Rattle.std.specs.List.{list_all}
use Rattle.std.specs.Str.Parse.{AllDigits, IsNumeral, starts_with_minus, without_leading_sign}
use Rattle.aas_lexical_forms.specs.Form.{run}
use Rattle.aas_lexical_forms.specs.Cut.{after_one, rest_or}
use Rattle.aas_lexical_forms.proofs.Begin.{Stops}
use Rattle.aas_lexical_forms.proofs.Cuts.{Cuts-maybe_one, peel}
use Rattle.aas_lexical.specs.Numbers.{is_sign, integer, integer_value, integer_from, integer_up_to, integer_between}
use Rattle.aas_lexical.proofs.NumbersExact.{digits_no_sign}

-- ---- digits

pub digit_in : (b : ℕ) → digit_value b < 10 → is_ascii_digit b ≡ true
digit_in b h = grind (arith, nat_tests)

digit_below : (b : ℕ) → is_ascii_digit b ≡ true → digit_value b < 10
digit_below b h = grind (arith, nat_tests)

all_digits : (t : List ℕ) → AllDigits 10 t → list_all is_ascii_digit t ≡ true
all_digits [] h = refl
all_digits (b ∷ t) h = rw (digit_in b h.0, all_digits t h.1) refl

digits_all : (t : List ℕ) → list_all is_ascii_digit t ≡ true → AllDigits 10 t
digits_all [] h = tt
digits_all (b ∷ t) h = let s = and_parts (is_ascii_digit b) (list_all is_ascii_digit t) h in (digit_below b s.0, digits_all t s.1)

numeral_run : (t : List ℕ) → IsNumeral 10 t → run is_ascii_digit t
numeral_run [] h = let n = h.0 in absurd (omega arith)
numeral_run (b ∷ t) h = and_parts (is_ascii_digit b) (list_all is_ascii_digit t) (all_digits (b ∷ t) h.1)

run_numeral : (t : List ℕ) → run is_ascii_digit t → IsNumeral 10 t
run_numeral [] h = absurd h
run_numeral (b ∷ t) h = (omega arith, (digit_below b h.0, digits_all t h.1))

-- ---- signs

run_stops : (y : List ℕ) → run is_ascii_digit y → Stops is_sign y
run_stops [] h = tt
run_stops (b ∷ y) h = digits_no_sign b h.0

unsigned_by : (b : ℕ) (u : List ℕ) (m p : Bool) → (b == 45) ≡ m → (b == 43) ≡ p
    → rest_or (b ∷ u) (if p || m then Some u else None) ≡ cond m (drop 1 (b ∷ u)) (drop (cond p 1 0) (b ∷ u))
unsigned_by b u true true h k = refl
unsigned_by b u true false h k = refl
unsigned_by b u false true h k = refl
unsigned_by b u false false h k = refl

unsigned : (t : List ℕ) → rest_or t (after_one is_sign t) ≡ without_leading_sign t
unsigned [] = refl
unsigned (b ∷ u) = unsigned_by b u (b == 45) (b == 43) refl refl

integer_peeled : (t : List ℕ) → integer t ↔ run is_ascii_digit (rest_or t (after_one is_sign t))
integer_peeled t = peel (Cuts-maybe_one is_sign) (run is_ascii_digit) run_stops t

pub integer_numeral : (t : List ℕ) → integer t → IsNumeral 10 (without_leading_sign t)
integer_numeral t h = let r : run is_ascii_digit (rest_or t (after_one is_sign t)) = (integer_peeled t).0 h in run_numeral (without_leading_sign t) (rw (unsigned t) at r)

pub numeral_integer : (t : List ℕ) → IsNumeral 10 (without_leading_sign t) → integer t
numeral_integer t h = (integer_peeled t).1 (rw (unsigned t) (numeral_run (without_leading_sign t) h))

-- ---- beyond 128 bits

-- behind a minus the value is at most 0, and else at least 0
minus_value : (t : List ℕ) → starts_with_minus t ≡ true → integer_value t ≤ℤ pos 0
minus_value t h = rw h (omega (arith, ints))

plain_value : (t : List ℕ) → starts_with_minus t ≡ false → pos 0 ≤ℤ integer_value t
plain_value t h = rw h (omega (arith, ints))

fits_between : (least z greatest : ℤ) → FitsSigned w128 least → FitsSigned w128 greatest → least ≤ℤ z → z ≤ℤ greatest → FitsSigned w128 z
fits_between least z greatest f g h k = omega (arith, ints)

large_by : (z : ℤ) (v : Bool) → nat_lt (unsigned_abs z) (2 ^ 127) ≡ v → (FitsSigned w128 z → ⊥) → 2 ^ 127 ≤ unsigned_abs z
large_by z true h k = absurd (k (fits_signed_from_abs w128 z (ltb-true (unsigned_abs z) (2 ^ 127) h)))
large_by z false h k = grind (arith, nat_tests)

large : (z : ℤ) → (FitsSigned w128 z → ⊥) → 2 ^ 127 ≤ unsigned_abs z
large z k = large_by z (nat_lt (unsigned_abs z) (2 ^ 127)) refl k

above : (least z : ℤ) → FitsSigned w128 least → (FitsSigned w128 z → ⊥) → pos 0 ≤ℤ z → least ≤ℤ z
above least z f k h = let l = large z k in omega (arith, ints)

under : (greatest z : ℤ) → FitsSigned w128 greatest → (FitsSigned w128 z → ⊥) → z ≤ℤ pos 0 → z ≤ℤ greatest
under greatest z f k h = let l = large z k in omega (arith, ints)

zero_fits : FitsSigned w128 (pos 0)
zero_fits = omega (arith, ints)

pub between_beyond : (t : List ℕ) (least greatest : ℤ) → FitsSigned w128 least → FitsSigned w128 greatest → (integer t → FitsSigned w128 (integer_value t) → ⊥) → integer_between least greatest t → ⊥
between_beyond t least greatest f g k h = k h.0 (fits_between least (integer_value t) greatest f g h.1 h.2)

no_minus : (t : List ℕ) (least : ℤ) (v : Bool) → starts_with_minus t ≡ v → FitsSigned w128 least → (integer t → FitsSigned w128 (integer_value t) → ⊥) → integer_from least t → v ≡ false
no_minus t least true e f k h = absurd (k h.0 (fits_between least (integer_value t) (pos 0) f zero_fits h.1 (minus_value t e)))
no_minus t least false e f k h = refl

minus : (t : List ℕ) (greatest : ℤ) (v : Bool) → starts_with_minus t ≡ v → FitsSigned w128 greatest → (integer t → FitsSigned w128 (integer_value t) → ⊥) → integer_up_to greatest t → v ≡ true
minus t greatest true e f k h = refl
minus t greatest false e f k h = absurd (k h.0 (fits_between (pos 0) (integer_value t) greatest zero_fits f (plain_value t e) h.1))

pub from_beyond : (t : List ℕ) (least : ℤ) → FitsSigned w128 least → (integer t → FitsSigned w128 (integer_value t) → ⊥) → (integer t × (starts_with_minus t ≡ false)) ↔ integer_from least t
from_beyond t least f k = (
  λ h. (h.0, above least (integer_value t) f (k h.0) (plain_value t h.1)),
  λ h. (h.0, no_minus t least (starts_with_minus t) refl f k h),
)

pub up_to_beyond : (t : List ℕ) (greatest : ℤ) → FitsSigned w128 greatest → (integer t → FitsSigned w128 (integer_value t) → ⊥) → (integer t × (starts_with_minus t ≡ true)) ↔ integer_up_to greatest t
up_to_beyond t greatest f k = (
  λ h. (h.0, under greatest (integer_value t) f (k h.0) (minus_value t h.1)),
  λ h. (h.0, minus t greatest (starts_with_minus t) refl f k h),
)

-- ---- within 128 bits

le_decided : (a b : ℤ) → IsTrue (le_z a b) ↔ (a ≤ℤ b)
le_decided a b = (λ h. grind (arith, ints), λ h. grind (arith, ints))

pub from_within : (t : List ℕ) (least value : ℤ) → FitsSigned w128 least → FitsSigned w128 value → integer t → value ≡ integer_value t
    → IsTrue (le_z (to_z w128 (of_z w128 least)) (to_z w128 (of_z w128 value))) ↔ integer_from least t
from_within t least value f g h e =
    let d = le_decided least (integer_value t) in
    rw (to_z-of_z w128 least f, to_z-of_z w128 value g, e) (λ k. (h, d.0 k), λ k. d.1 k.1)

pub between_within : (t : List ℕ) (least greatest value : ℤ) (r : Bool) → integer t → value ≡ integer_value t → r ≡ (le_z least value && le_z value greatest) → IsTrue r ↔ integer_between least greatest t
between_within t least greatest value r h e test =
    let low = le_decided least (integer_value t) in let high = le_decided (integer_value t) greatest in
    let both : Decides (le_z least (integer_value t) && le_z (integer_value t) greatest) ((least ≤ℤ integer_value t) × (integer_value t ≤ℤ greatest)) = Decides-and _ _ low high in
    rw (test, e) (λ k. let w = both.0 k in (h, w.0, w.1), λ k. both.1 (k.1, k.2))
