-- The number that the digits of a place write, digit by digit.
use Rattle.std.proofs.Common.{◌≡◌, ℕ, ◌+◌, ◌-◌, ◌*◌, ◌<◌, ◌≤◌, ◌^◌, List, length, take, get_or, sym, ap, ◌∙◌, subst, arith, decimal}
use Rattle.std.proofs.lemmas.Bool.Decides.{nat_tests}
use Rattle.std.proofs.lemmas.Fmt.{digits_value-decimal}
use Rattle.std.proofs.lemmas.Int.Digits.{digits_value_more}
use Rattle.std.proofs.lemmas.List.{take_all}
use Rattle.std.proofs.lemmas.Str.Parse.{digit_at, digits_value-take-le}
use Rattle.std.specs.Char.{digit_value}
use Rattle.std.specs.Int.{IsInRange}
use Rattle.std.specs.Str.Parse.{digits_value, AllDigits}
use Rattle.aas_path.specs.StepText.{IsPlace}
use Rattle.aas_path.proofs.PlaceSteps.{own, digits_of_place}

value_of : (c : ℕ) → IsInRange 48 57 c → digit_value c ≡ c - 48
value_of c h = grind (arith, nat_tests)

pub record Digit (ds : List ℕ) (i v : ℕ) : Type 0 where
  pub low : 48 ≤ get_or ds i 0
  pub next : v * 10 + (get_or ds i 0 - 48) ≡ digits_value 10 (take (i + 1) ds)
  pub small : v * 10 + (get_or ds i 0 - 48) < 10 ^ 9

all_digits : (ds : List ℕ) → IsPlace ds → AllDigits 10 ds
all_digits ds place = subst (AllDigits 10) (sym place.2) (own.to (decimal place.0) (digits_of_place place.0 place.1).all)

whole_value : (ds : List ℕ) → (place : IsPlace ds) → digits_value 10 ds ≡ place.0
whole_value ds place = ap (digits_value 10) place.2 ∙ digits_value-decimal own place.0 (omega (arith, place.1))

pub digit : (ds : List ℕ) (i v : ℕ) → IsPlace ds → i < length ds → v ≡ digits_value 10 (take i ds) → Digit ds i v
digit ds i v place lt is =
    let range = digit_at ds i (all_digits ds place) lt in
    let next : v * 10 + (get_or ds i 0 - 48) ≡ digits_value 10 (take (i + 1) ds) =
    ap (λ n. n * 10 + (get_or ds i 0 - 48)) is ∙ ap (λ d. digits_value 10 (take i ds) * 10 + d) (sym (value_of (get_or ds i 0) range)) ∙ sym (digits_value_more 10 ds i lt) in
    record { low = range.0; next = next; small = omega (arith, digits_value-take-le 10 ds (i + 1) (omega arith), whole_value ds place, place.1, next) }

pub whole : (ds : List ℕ) (i v : ℕ) → IsPlace ds → length ds ≤ i → v ≡ digits_value 10 (take i ds) → (ds ≡ decimal v) × (v < 10 ^ 9)
whole ds i v place le is =
    let same : v ≡ place.0 = is ∙ ap (digits_value 10) (take_all i ds le) ∙ whole_value ds place in
    (place.2 ∙ ap decimal (sym same), omega (arith, place.1))
