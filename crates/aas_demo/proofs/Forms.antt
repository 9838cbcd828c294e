-- The texts of a demo have their forms.
use Rattle.std.proofs.Common.{◌≡◌, ℕ, ◌-◌, ◌<◌, ◌≤◌, ◌^◌, ◌==◌, ◌||◌, ◌&&◌, Bool, true, false, cond, List, [], ◌∷◌, length, drop, bytes_eq, decimal, refl, sym, ap, ◌∙◌, subst, arith, lit<, nat_le}
use Rattle.std.specs.Prelude.{◌≤ℤ◌, neg_ℤ, pos}
use Rattle.std.specs.Char.{is_ascii_digit}
use Rattle.std.specs.Int.{is_in_range}
use Rattle.std.specs.List.{list_all}
use Rattle.std.specs.Str.{encode_utf8_all}
use Rattle.std.specs.Str.Parse.{AllDigits, IsNumeral, digits_value, starts_with_minus, without_leading_sign}
use Rattle.std.proofs.lemmas.Bool.Decides.{nat_tests}
use Rattle.std.proofs.lemmas.Fmt.{IsAscii-decimal, decimal_injective, decimal_is_IsNumeral, length-decimal-le}
use Rattle.std.proofs.lemmas.Int.{ints}
use Rattle.std.proofs.lemmas.Slice.Eq.{bytes_eq-Decides}
use Rattle.std.proofs.lemmas.Str.{encodes-IsAscii}
use Rattle.std.proofs.lemmas.Str.Ascii.{IsAscii-cons}
use Rattle.std.proofs.lemmas.Bool.{or_right}
use Rattle.aas_constraint_rules.proofs.Forms.{form_tells, name_tells}
use Rattle.aas_constraint_rules.specs.Decided.{has_form, is_name, is_string}
use Rattle.aas_lexical.proofs.IntegersExact.{digit_in, numeral_integer}
use Rattle.aas_lexical.specs.Names.{is_name_character, is_string_character, name}
use Rattle.aas_lexical.specs.Numbers.{integer_value, signed_integer}
use Rattle.aas_model_names.specs.declared.value_type.ValueType.TheVariants.{Int}

-- ---- digits

-- what holds of every digit holds of each of them
each_digit : (test : ℕ → Bool) → ((c : ℕ) → is_ascii_digit c ≡ true → test c ≡ true) → (ds : List ℕ) → AllDigits 10 ds → list_all test ds ≡ true
each_digit test holds [] all = refl
each_digit test holds (d ∷ ds) all =
    ap (λ b. b && list_all test ds) (holds d (digit_in d all.0)) ∙ each_digit test holds ds all.1

name_digit : (c : ℕ) → is_ascii_digit c ≡ true → is_name_character c ≡ true
name_digit c is = ap (λ b. ((b || is_in_range 65 90 c) || is_in_range 97 122 c) || c == 95) is

string_digit : (c : ℕ) → is_ascii_digit c ≡ true → is_string_character c ≡ true
string_digit c is =
    let within : is_in_range 0x20 0xD7FF c ≡ true = grind (arith, nat_tests) in
    ap (λ b. (b || is_in_range 0xE000 0xFFFD c) || is_in_range 0x10000 0x10FFFF c) (or_right ((c == 0x9 || c == 0xA) || c == 0xD) (is_in_range 0x20 0xD7FF c) within)

-- ---- numbers

abbrev digits : (n : ℕ) → n < 2 ^ 64 → AllDigits 10 (decimal n)
digits n small = (decimal_is_IsNumeral n small).0.1

encoded : (n : ℕ) → n < 2 ^ 64 → encode_utf8_all (decimal n) ≡ decimal n
encoded n small = encodes-IsAscii (decimal n) (IsAscii-decimal n small)

record HasNoSign (ds : List ℕ) : Type 0 where
  minus : starts_with_minus ds ≡ false
  whole : without_leading_sign ds ≡ ds

no_sign : (ds : List ℕ) → AllDigits 10 ds → HasNoSign ds
no_sign [] all = record { minus = refl; whole = refl }
no_sign (d ∷ ds) all =
    let digit : is_ascii_digit d ≡ true = digit_in d all.0 in
    let no_minus : d == 45 ≡ false = grind (arith, nat_tests) in
    let no_plus : d == 43 ≡ false = grind (arith, nat_tests) in record {
      minus = no_minus;
      whole = ap (λ b. cond b ds (drop (cond (d == 43) 1 0) (d ∷ ds))) no_minus ∙ ap (λ b. drop (cond b 1 0) (d ∷ ds)) no_plus;
    }

value_is : (n : ℕ) → n < 2 ^ 64 → integer_value (decimal n) ≡ pos n
value_is n small =
    let none = no_sign (decimal n) (digits n small) in
    ap (λ b. cond b (neg_ℤ (pos (digits_value 10 (without_leading_sign (decimal n))))) (pos (digits_value 10 (without_leading_sign (decimal n))))) none.minus
    ∙ ap (λ (ds : List ℕ). pos (digits_value 10 ds)) none.whole ∙ ap pos (decimal_is_IsNumeral n small).1

is_int : (n : ℕ) → n < 2 ^ 31 → signed_integer 32 (decimal n)
is_int n small =
    let wide : n < 2 ^ 64 = omega (arith, small) in
    let none = no_sign (decimal n) (digits n wide) in
    let value = value_is n wide in (
      numeral_integer (decimal n) (subst (IsNumeral 10) (sym none.whole) (decimal_is_IsNumeral n wide).0),
      subst (λ z. neg_ℤ (pos (2 ^ 31)) ≤ℤ z) (sym value) (omega (arith, ints)),
      subst (λ z. z ≤ℤ pos (2 ^ 31 - 1)) (sym value) (omega (arith, ints)),
    )

pub int_has_form : (n : ℕ) → n < 2 ^ 31 → has_form Int (decimal n) ≡ true
int_has_form n small =
    let bytes = encoded n (omega (arith, small)) in
    (form_tells Int (encode_utf8_all (decimal n))).1 (subst (signed_integer 32) (sym bytes) (is_int n small))

pub int_is_string : (n : ℕ) → n < 2 ^ 64 → is_string (decimal n) ≡ true
int_is_string n small = each_digit is_string_character string_digit (decimal n) (digits n small)

-- ---- names

pub name_is_name : (n : ℕ) → n < 2 ^ 64 → is_name (80 ∷ decimal n) ≡ true
name_is_name n small =
    let bytes = encodes-IsAscii (80 ∷ decimal n) (IsAscii-cons 80 (decimal n) (lit< tt) (IsAscii-decimal n small)) in
    (name_tells (80 ∷ decimal n)).1 (subst name (sym bytes)
    (80 ∷ [], decimal n, refl, (refl, refl), each_digit is_name_character name_digit (decimal n) (digits n small)))

pub name_is_string : (n : ℕ) → n < 2 ^ 64 → is_string (80 ∷ decimal n) ≡ true
name_is_string n small = int_is_string n small

pub name_is_short : (n : ℕ) → n < 2 ^ 32 → nat_le (length (80 ∷ decimal n)) 128 ≡ true
name_is_short n small =
    let short : length (decimal n) ≤ 10 = length-decimal-le 10 n (lit< tt) (omega (arith, small)) (omega (arith, small)) in grind (arith, nat_tests)

behind_p : (m n : ℕ) → 80 ∷ decimal m ≡ 80 ∷ decimal n → decimal m ≡ decimal n
behind_p m n is = cc

pub names_differ : (m n : ℕ) → m < n → n < 2 ^ 64 → bytes_eq (80 ∷ decimal n) (80 ∷ decimal m) ≡ false
names_differ m n before small = by (bytes_eq (80 ∷ decimal n) (80 ∷ decimal m)) refl
  where
    by : (b : Bool) → bytes_eq (80 ∷ decimal n) (80 ∷ decimal m) ≡ b → b ≡ false
    by false is = refl
    by true is =
        let same : n ≡ m = decimal_injective n m small (omega (arith, before, small)) (behind_p n m ((bytes_eq-Decides (80 ∷ decimal n) (80 ∷ decimal m)).0 is)) in
        absurd (omega (arith, before, same))
