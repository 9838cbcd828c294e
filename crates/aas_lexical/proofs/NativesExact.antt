-- The value that is written natively: the function gives it exactly where there is one.
use Rattle.std.proofs.Common.{◌≡◌, ℕ, suc, ◌==◌, ◌<◌, ◌^◌, ◌&&◌, Bool, true, false, List, [], ◌∷◌, Option, Some, None, refl, sym, ap, ◌∙◌, arith, FitsSigned, Decides, codes, if◌then◌else◌}
use Rattle.std.proofs.lemmas.Bool.Decides.{nat_tests, Decides-and}
use Rattle.std.proofs.lemmas.Int.{ints}
use Rattle.std.proofs.lemmas.Fmt.{decimal_is_IsNumeral}
use Rattle.std.specs.Prelude.{ℤ, pos, negsuc, neg_ℤ, bytes_eq, option_map}
use Rattle.std.specs.Cmp.Lexicographic.{bytes_decides}
use Rattle.std.specs.Int.{w128}
use Rattle.std.specs.Char.{is_ascii_digit}
use Rattle.std.specs.Fmt.{decimal, signed_decimal}
use Rattle.std.specs.Str.Parse.{IsNumeral, starts_with_minus, without_leading_plus, without_leading_sign}
use Rattle.aas_model_names.specs.declared.value_type.ValueType.{ValueType}
use Rattle.aas_model_names.specs.declared.value_type.ValueType.TheVariants as xs
use Rattle.aas_lexical.specs.declared.natives.Native.{Native}
use Rattle.aas_lexical.specs.declared.natives.Native.TheVariants as native
use Rattle.aas_lexical.specs.Numbers.{integer, integer_value}
use Rattle.aas_lexical.specs.Natives.{is_boolean, is_numeric, IsWritten, IsNative, truth_of, is_written, whole_of, native_of}
use Rattle.aas_lexical.proofs.IntegersExact.{digit_in, numeral_integer}

-- ---- decimal texts

written_decided : (z : ℤ) → Decides (is_written z) (IsWritten z)
written_decided z = (λ h. grind (arith, ints), λ h. grind (arith, ints))

-- digits have no sign to leave out
digit_no_sign : (b : ℕ) → is_ascii_digit b ≡ true → ((b == 45) ≡ false) × ((b == 43) ≡ false)
digit_no_sign b h = (grind (arith, nat_tests), grind (arith, nat_tests))

no_minus : (ds : List ℕ) → IsNumeral 10 ds → starts_with_minus ds ≡ false
no_minus [] h = refl
no_minus (b ∷ ds) h = (digit_no_sign b (digit_in b h.1.0)).0

no_plus : (ds : List ℕ) → IsNumeral 10 ds → without_leading_plus ds ≡ ds
no_plus [] h = refl
no_plus (b ∷ ds) h = rw (digit_no_sign b (digit_in b h.1.0)).1 refl

no_sign : (ds : List ℕ) → IsNumeral 10 ds → without_leading_sign ds ≡ ds
no_sign [] h = refl
no_sign (b ∷ ds) h = let s = digit_no_sign b (digit_in b h.1.0) in rw (s.0, s.1) refl

decimal_integer : (z : ℤ) → IsWritten z → integer (signed_decimal z)
decimal_integer (pos n) h =
    let small : n < 2 ^ 64 = let last = h.1 in omega (arith, ints) in
    let numeral = (decimal_is_IsNumeral n small).0 in
    numeral_integer (decimal n) (rw (no_sign (decimal n) numeral) numeral)
decimal_integer (negsuc n) h =
    let small : suc n < 2 ^ 64 = let first = h.0 in omega (arith, ints) in
    numeral_integer (45 ∷ decimal (suc n)) (decimal_is_IsNumeral (suc n) small).0

decimal_value : (z : ℤ) → IsWritten z → integer_value (signed_decimal z) ≡ z
decimal_value (pos n) h =
    let small : n < 2 ^ 64 = let last = h.1 in omega (arith, ints) in
    let read = decimal_is_IsNumeral n small in
    rw (no_minus (decimal n) read.0, no_plus (decimal n) read.0) (ap (λ k. pos k) read.1)
decimal_value (negsuc n) h =
    let small : suc n < 2 ^ 64 = let first = h.0 in omega (arith, ints) in
    ap (λ k. neg_ℤ (pos k)) (decimal_is_IsNumeral (suc n) small).1

written_fits : (z : ℤ) → IsWritten z → FitsSigned w128 z
written_fits z h = omega (arith, ints)

-- ---- whole numbers

-- the test of a whole number
abbrev IsWhole : List ℕ → Type 0
IsWhole text = IsWritten (integer_value text) × (text ≡ signed_decimal (integer_value text))

whole_decided : (text : List ℕ) → Decides (is_written (integer_value text) && bytes_eq text (signed_decimal (integer_value text))) (IsWhole text)
whole_decided text = Decides-and _ _ (written_decided (integer_value text)) (bytes_decides text (signed_decimal (integer_value text)))

beyond_by : (text : List ℕ) (v : Bool) → (v ≡ true → IsWhole text) → (integer text → FitsSigned w128 (integer_value text) → ⊥) → None ≡ (if v then Some (integer_value text) else None)
beyond_by text true d k =
    let whole : IsWhole text = d refl in
    let is : integer text = rw whole.1 (decimal_integer (integer_value text) whole.0) in
    absurd (k is (written_fits (integer_value text) whole.0))
beyond_by text false d k = refl

-- what isn't an integer of 128 bits isn't written
pub whole_beyond : (text : List ℕ) → (integer text → FitsSigned w128 (integer_value text) → ⊥) → None ≡ whole_of text
whole_beyond text k = beyond_by text (is_written (integer_value text) && bytes_eq text (signed_decimal (integer_value text))) (whole_decided text).0 k

whole_by : (text : List ℕ) (z : ℤ) (v : Bool) → (v ≡ true → IsWhole text) → (if v then Some (integer_value text) else None) ≡ Some z → (text ≡ signed_decimal z) × IsWritten z
whole_by text z true d e = let same : integer_value text ≡ z = cc in let whole : IsWhole text = d refl in rw (sym same) (whole.1, whole.0)
whole_by text z false d e = absurd (cc)

whole_some : (text : List ℕ) (z : ℤ) → whole_of text ≡ Some z → (text ≡ signed_decimal z) × IsWritten z
whole_some text z e = whole_by text z (is_written (integer_value text) && bytes_eq text (signed_decimal (integer_value text))) (whole_decided text).0 e

whole_full : (text : List ℕ) (z : ℤ) → text ≡ signed_decimal z → IsWritten z → whole_of text ≡ Some z
whole_full text z e h =
    let value : integer_value text ≡ z = ap integer_value e ∙ decimal_value z h in
    let test : (is_written (integer_value text) && bytes_eq text (signed_decimal (integer_value text))) ≡ true = (whole_decided text).1 (rw value (h, e)) in
    rw test (ap (λ k. Some k) value)

-- ---- truth values

truth_by : (text : List ℕ) (n : Native) (v w : Bool) → (v ≡ true → text ≡ codes "true") → (w ≡ true → text ≡ codes "false") → (t : ValueType) → is_boolean t ≡ true
    → (if v then Some (native.Bool true) else (if w then Some (native.Bool false) else None)) ≡ Some n → IsNative t n text
truth_by text (native.Bool true) true w c d t b e = (b, c refl)
truth_by text (native.Bool false) true w c d t b e = absurd (cc)
truth_by text (native.Whole z) true w c d t b e = absurd (cc)
truth_by text (native.Bool true) false true c d t b e = absurd (cc)
truth_by text (native.Bool false) false true c d t b e = (b, d refl)
truth_by text (native.Whole z) false true c d t b e = absurd (cc)
truth_by text n false false c d t b e = absurd (cc)

-- ---- both

no_number : (t : ValueType) (text : List ℕ) (n : Native) (o : Option ℤ) → is_boolean t ≡ false → is_numeric t ≡ true → whole_of text ≡ o → option_map (λ z. native.Whole z) o ≡ Some n → IsNative t n text
no_number t text (native.Whole z) (Some y) b k h e = let same : y ≡ z = cc in let whole = whole_some text z (h ∙ ap (λ x. Some x) same) in (k, whole.0, whole.1)
no_number t text (native.Bool true) (Some y) b k h e = absurd (cc)
no_number t text (native.Bool false) (Some y) b k h e = absurd (cc)
no_number t text n None b k h e = absurd (cc)

native_by : (t : ValueType) (text : List ℕ) (n : Native) (v w : Bool) → is_boolean t ≡ v → is_numeric t ≡ w
    → (if v then truth_of text else (if w then option_map (λ z. native.Whole z) (whole_of text) else None)) ≡ Some n → IsNative t n text
native_by t text n true w b k e = truth_by text n (bytes_eq text (codes "true")) (bytes_eq text (codes "false")) (bytes_decides text (codes "true")).0 (bytes_decides text (codes "false")).0 t b e
native_by t text n false true b k e = no_number t text n (whole_of text) b k refl e
native_by t text n false false b k e = absurd (cc)

-- what the function gives is written natively
pub native_some : (t : ValueType) (text : List ℕ) (n : Native) → native_of t text ≡ Some n → IsNative t n text
native_some t text n e = native_by t text n (is_boolean t) (is_numeric t) refl refl e

not_boolean : (t : ValueType) → is_numeric t ≡ true → is_boolean t ≡ false
not_boolean xs.Boolean k = absurd (cc)
not_boolean _ k = refl

-- what is written natively is what the function gives
pub native_full : (t : ValueType) (text : List ℕ) (n : Native) → IsNative t n text → native_of t text ≡ Some n
native_full t text (native.Bool true) h = rw (h.0, h.1) refl
native_full t text (native.Bool false) h = rw (h.0, h.1) refl
native_full t text (native.Whole z) h = rw (not_boolean t h.0, h.0) (ap (λ o. option_map (λ z. native.Whole z) o) (whole_full text z h.1 h.2))

pub native_none : (t : ValueType) (text : List ℕ) → native_of t text ≡ None → (n : Native) → IsNative t n text → ⊥
native_none t text e n h = let found = native_full t text n h in absurd (cc)
