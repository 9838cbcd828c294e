-- Texts of 1 to 9 digits, told by the number of their bytes.
use Rattle.std.proofs.Common.{◌≡◌, ℕ, ◌<◌, ◌≤◌, ◌&&◌, nat_le, List, [], ◌∷◌, ◌++◌, length, Bool, true, false, refl, sym, ap, ◌∙◌, true≢false, arith}
use Rattle.std.specs.List.{list_all}
use Rattle.std.specs.Str.{encode_utf8_all}
use Rattle.std.proofs.lemmas.Bool.{leb-true, le-leb, lt-leb}
use Rattle.std.proofs.lemmas.Str.{encode_ascii}
use Rattle.aas_lemmas.proofs.Truth.{and_left, and_right}
use Rattle.aas_reference.specs.Rules.{is_digit, is_place}

-- digits have a byte each
digits_encoded : (cs : List ℕ) → list_all is_digit cs ≡ true → length (encode_utf8_all cs) ≡ length cs
digits_encoded [] e = refl
digits_encoded (c ∷ cs) e =
    let first = and_left (is_digit c) (list_all is_digit cs) e in
    let low : c ≤ 57 = leb-true c 57 (and_right (nat_le 48 c) (nat_le c 57) first) in
    let rest = digits_encoded cs (and_right (is_digit c) (list_all is_digit cs) e) in
    ap (λ bs. length (bs ++ encode_utf8_all cs)) (encode_ascii c (omega arith)) ∙ omega arith

three : (a b c : Bool) → a ≡ true → b ≡ true → c ≡ a && b && c
three a b c e f = rw (e, f) refl

last_false : (a b c : Bool) → c ≡ false → a && b && c ≡ false
last_false true true c e = e
last_false true false c e = refl
last_false false b c e = refl

by_digits : (cs : List ℕ) (b : Bool) → list_all is_digit cs ≡ b → 1 ≤ length (encode_utf8_all cs) → length (encode_utf8_all cs) ≤ 9 → b ≡ is_place cs
by_digits cs false e low high = sym (last_false (nat_le 1 (length cs)) (nat_le (length cs) 9) (list_all is_digit cs) e)
by_digits cs true e low high =
    let same = digits_encoded cs e in
    sym e ∙ three (nat_le 1 (length cs)) (nat_le (length cs) 9) (list_all is_digit cs) (le-leb 1 (length cs) (omega arith)) (le-leb (length cs) 9 (omega arith))

-- Of 1 to 9 bytes, a text is a place where it has only digits.
pub place_of_digits : (cs : List ℕ) → 1 ≤ length (encode_utf8_all cs) → length (encode_utf8_all cs) ≤ 9 → list_all is_digit cs ≡ is_place cs
place_of_digits cs low high = by_digits cs (list_all is_digit cs) refl low high

empty_by_digits : (cs : List ℕ) (b : Bool) → list_all is_digit cs ≡ b → length (encode_utf8_all cs) < 1 → is_place cs ≡ false
empty_by_digits cs false e low = last_false (nat_le 1 (length cs)) (nat_le (length cs) 9) (list_all is_digit cs) e
empty_by_digits cs true e low =
    let same = digits_encoded cs e in
    rw (lt-leb 1 (length cs) (omega arith)) refl

pub no_empty_place : (cs : List ℕ) → length (encode_utf8_all cs) < 1 → is_place cs ≡ false
no_empty_place cs low = empty_by_digits cs (list_all is_digit cs) refl low

middle_false : (a b c : Bool) → b ≡ false → a && b && c ≡ false
middle_false true true c e = absurd (true≢false e)
middle_false true false c e = refl
middle_false false b c e = refl

long_by_digits : (cs : List ℕ) (b : Bool) → list_all is_digit cs ≡ b → 9 < length (encode_utf8_all cs) → is_place cs ≡ false
long_by_digits cs false e high = last_false (nat_le 1 (length cs)) (nat_le (length cs) 9) (list_all is_digit cs) e
long_by_digits cs true e high =
    let same = digits_encoded cs e in
    middle_false (nat_le 1 (length cs)) (nat_le (length cs) 9) (list_all is_digit cs) (lt-leb (length cs) 9 (omega arith))

pub no_long_place : (cs : List ℕ) → 9 < length (encode_utf8_all cs) → is_place cs ≡ false
no_long_place cs high = long_by_digits cs (list_all is_digit cs) refl high
