-- Numbers by their digits.
use Rattle.std.proofs.Common.{◌≡◌, ℕ, ◌<◌, ◌≤◌, ◌^◌, true, false, cond, List, [], ◌∷◌, ◌++◌, length, decimal}
use Rattle.std.proofs.Common.{Result, Ok, Err, Option, Some, None, refl, sym, ap, ◌∙◌, subst, arith, rules}
use Rattle.std.specs.Prelude.{◌-◌, ◌==◌, min, nat_le, option_map}
use Rattle.std.specs.List.{list_all}
use Rattle.std.specs.Result.{OkIff, result_unwrap_or}
use Rattle.std.specs.Str.{encode_utf8_all}
use Rattle.std.specs.Str.Parse.{ParsesUnsigned, digits_value}
use Rattle.std.proofs.Math.Nat.{min-eq_left, min-eq_right}
use Rattle.std.proofs.lemmas.Bool.{leb-true}
use Rattle.std.proofs.lemmas.Bool.Decides.{nat_tests}
use Rattle.std.proofs.lemmas.Fmt.{digits_decimal, digits_value-decimal, decimal_nonempty}
use Rattle.std.proofs.lemmas.Str.{encode_ascii}
use Rattle.std.proofs.lemmas.Str.Parse.{IsDigitsTest, IsNumeralModel, numerals_by_value, parse_digits}
use Rattle.aas_lemmas.proofs.Truth.{and_left, and_right}
use Rattle.aas_reference.specs.Rules.{is_digit}
use Rattle.aas_resolve.specs.Resolved.{number}

AreDigits : List ℕ → Type 0
AreDigits ds = list_all is_digit ds ≡ true

tells : IsDigitsTest AreDigits
unfolding AreDigits
tells = search rules

own : IsNumeralModel AreDigits (digits_value 10)
own = numerals_by_value AreDigits tells

-- ---- what digits spell

number_is : (ds : List ℕ) → AreDigits ds → 0 < length ds → number ds ≡ Some (digits_value 10 ds)
unfolding AreDigits
number_is [] all some = absurd (omega arith)
number_is (d ∷ ds) all some = ap (λ b. cond b (Some (digits_value 10 (d ∷ ds))) None) all

pub number_none : (cs : List ℕ) → list_all is_digit cs ≡ false → number cs ≡ None
number_none [] e = refl
number_none (c ∷ cs) e = ap (λ b. cond b (Some (digits_value 10 (c ∷ cs))) None) e

pub number_decimal : (n : ℕ) → n < 2 ^ 64 → number (decimal n) ≡ Some n
number_decimal n small =
    number_is (decimal n) (digits_decimal own n small) (decimal_nonempty n small)
    ∙ ap (λ n. Some n) (digits_value-decimal own n small)

-- ---- what is read of digits

-- a digit has one byte
as_bytes : (ds : List ℕ) → list_all is_digit ds ≡ true → encode_utf8_all ds ≡ ds
as_bytes [] e = refl
as_bytes (d ∷ ds) e =
    let first = and_left (is_digit d) (list_all is_digit ds) e in
    let low : d ≤ 57 = leb-true d 57 (and_right (nat_le 48 d) (nat_le d 57) first) in
    ap (λ bs. bs ++ encode_utf8_all ds) (encode_ascii d (omega arith))
    ∙ ap (λ bs. d ∷ bs) (as_bytes ds (and_right (is_digit d) (list_all is_digit ds) e))

abbrev capped : Option ℕ → Option ℕ
capped o = option_map (min (2 ^ 64 - 1)) o

by_result : {E : Type 0} (ds : List ℕ) (r : Result ℕ E) → AreDigits ds → 0 < length ds
    → OkIff r ((0 < length ds) × (digits_value 10 ds < 2 ^ 64)) (digits_value 10 ds)
    → Some (result_unwrap_or r (2 ^ 64 - 1)) ≡ capped (number ds)
by_result ds (Ok n) all some h =
    let fits : digits_value 10 ds ≤ 2 ^ 64 - 1 = omega (arith, h.0.1) in
    ap (λ n. Some n) (h.1 ∙ sym (min-eq_right fits)) ∙ sym (ap capped (number_is ds all some))
by_result ds (Err e) all some h =
    let large : 2 ^ 64 - 1 ≤ digits_value 10 ds =
    omega (arith, λ (small : digits_value 10 ds < 2 ^ 64). h (some, small)) in
    ap (λ n. Some n) (sym (min-eq_left large)) ∙ sym (ap capped (number_is ds all some))

pub read : {E : Type 0} (ds bs : List ℕ) (r : Result ℕ E) → bs ≡ encode_utf8_all ds → list_all is_digit ds ≡ true
    → (length bs == 0) ≡ false → ParsesUnsigned 64 10 bs r
    → Some (result_unwrap_or r (2 ^ 64 - 1)) ≡ option_map (min (2 ^ 64 - 1)) (number ds)
unfolding AreDigits
read ds bs r is all some h =
    let same : bs ≡ ds = is ∙ as_bytes ds all in
    let long : length bs ≡ length ds = ap length same in
    let more : 0 < length ds = grind (arith, nat_tests, some, long) in
    let parsed = parse_digits own 64 ds r (subst (λ bs. ParsesUnsigned 64 10 bs r) same h) all in
    by_result ds r all more parsed
