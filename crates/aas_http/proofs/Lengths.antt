-- Lengths of bodies, in digits.
use Rattle.std.proofs.Common.{◌≡◌, if◌then◌else◌, ℕ, ◌^◌, ◌<◌, ◌≤◌, true, false, Bool, ◌&&◌, List, [], ◌∷◌, length}
use Rattle.std.proofs.Common.{Some, None, refl, sym, ap, ◌∙◌, arith}
use Rattle.std.specs.Prelude.{nat_le, nat_lt, codes}
use Rattle.std.specs.List.{list_all}
use Rattle.std.specs.Char.{is_ascii_digit, digit_value}
use Rattle.std.specs.Str.Parse.{digits_value, AllDigits}
use Rattle.std.proofs.lemmas.Bool.{lt-ltb, cond-false}
use Rattle.std.proofs.lemmas.Bool.Decides.{nat_tests}
use Rattle.std.proofs.lemmas.Int.Digits.{digits_value-lt}
use Rattle.std.proofs.Math.Nat.{pow-le-pow_right}
use Rattle.aas_lemmas.proofs.Truth.{and_left, and_right}
use Rattle.http1.specs.Fields.{Header, is_number, values_named, known_fields, content_length}
use Rattle.http1.specs.declared.fields.KnownFields.{KnownFields}
use Rattle.http1.specs.declared.fields.ContentLength.TheVariants as Length
use Rattle.aas_http.specs.BodyLength.{is_length, length_value}
use Rattle.aas_http.specs.OnlyValue.{number_of}

digit : (c : ℕ) → is_ascii_digit c ≡ true → digit_value c < 10
digit c is = grind (arith, nat_tests)

all_digits : (cs : List ℕ) → list_all is_ascii_digit cs ≡ true → AllDigits 10 cs
all_digits [] is = tt
all_digits (c ∷ cs) is = (
  digit c (and_left (is_ascii_digit c) (list_all is_ascii_digit cs) is),
  all_digits cs (and_right (is_ascii_digit c) (list_all is_ascii_digit cs) is),
)

below : (n : ℕ) → n ≤ 19 → 10 ^ n ≤ 10 ^ 19
below n h = pow-le-pow_right (omega arith) h

small : (cs : List ℕ) → length cs ≤ 19 → list_all is_ascii_digit cs ≡ true → nat_lt (digits_value 10 cs) (2 ^ 64) ≡ true
small cs short is =
    lt-ltb (digits_value 10 cs) (2 ^ 64)
    (omega (arith, digits_value-lt 10 cs (all_digits cs is), below (length cs) short))

-- so many digits write a number below 2^64
same_test : (cs : List ℕ) → length cs ≤ 19 → is_length cs ≡ is_number cs
same_test cs short =
    same_by (nat_lt 0 (length cs)) (list_all is_ascii_digit cs) (nat_le (length cs) 19)
    (nat_lt (digits_value 10 cs) (2 ^ 64)) (le (length cs) short) (small cs short)
  where
    same_by : (some all le lt : Bool)
        → le ≡ true → (all ≡ true → lt ≡ true) → (some && (le && all)) ≡ (some && (all && lt))
    same_by some true le lt l h = ap (λ b. some && (b && true)) l ∙ sym (ap (λ b. some && (true && b)) (h refl))
    same_by some false le lt l h = ap (λ b. some && (b && false)) l

    le : (n : ℕ) → n ≤ 19 → nat_le n 19 ≡ true
    le n h = grind (arith, nat_tests)

pub short_number : (cs : List ℕ)
    → length cs ≤ 19 → (if is_number cs then Some (digits_value 10 cs) else None) ≡ length_value cs
unfolding length_value
short_number cs short = ap (λ b. if b then Some (digits_value 10 cs) else None) (sym (same_test cs short))

pub long_number : (cs : List ℕ) → 19 < length cs → None ≡ length_value cs
unfolding length_value
long_number cs long = sym (cond-false _ _ _
    (long_by (nat_lt 0 (length cs)) (list_all is_ascii_digit cs) (nat_le (length cs) 19) (not_le (length cs) long)))
  where
    long_by : (some all le : Bool) → le ≡ false → (some && (le && all)) ≡ false
    long_by true all le l = ap (λ b. b && all) l
    long_by false all le l = refl

    not_le : (n : ℕ) → 19 < n → nat_le n 19 ≡ false
    not_le n h = grind (arith, nat_tests)

-- what the summary of the fields says of one length, of at most 19 digits
pub known_length : (fields : List Header) (value : List ℕ) (known : KnownFields)
    → known ≡ known_fields fields → values_named (codes "content-length") fields ≡ value ∷ []
    → length value ≤ 19 → number_of known.content_length ≡ length_value value
unfolding known_fields
known_length fields value known is only short =
    ap (λ (k : KnownFields). number_of k.content_length) is
    ∙ ap (λ (values : List (List ℕ)). number_of (content_length values)) only
    ∙ by_number (is_number value) ∙ short_number value short
  where
    by_number : (test : Bool)
        → number_of (if test && true then Length.Value (digits_value 10 value) else Length.Invalid)
        ≡ (if test then Some (digits_value 10 value) else None)
    by_number true = refl
    by_number false = refl
