-- Texts escaped piece by piece.
use Rattle.std.proofs.Common.{◌≡◌, ℕ, ◌<◌, true, false, List, [], ◌∷◌, ◌++◌, length, take, drop, slice_index, refl, sym}
use Rattle.std.proofs.Common.{ap, ap₂, ◌∙◌, subst, arith}
use Rattle.std.proofs.lemmas.Bool.Decides.{nat_tests}
use Rattle.std.proofs.lemmas.List.{take-append-drop}
use Rattle.std.proofs.lemmas.Grind.{flat_map-append}
use Rattle.json.specs.Print.{escape, escape_byte}
use Rattle.aas_lemmas.proofs.Truth.{and_left, and_right}
use Rattle.aas_json_write_members.specs.Members.{is_plain, is_unescaped}

pub escape_parts : (n : ℕ) (bytes : List ℕ) → escape bytes ≡ escape (take n bytes) ++ escape (drop n bytes)
escape_parts n bytes =
    ap escape (sym (take-append-drop n bytes)) ∙ flat_map-append escape_byte (take n bytes) (drop n bytes)

-- a byte that doesn't stand for itself is ASCII
pub escaped_is_ascii : (x : ℕ) → is_unescaped x ≡ false → x < 128
escaped_is_ascii x is = grind (arith, nat_tests)

-- where no byte at the front of a text stands for itself, the first one doesn't
pub escaped_first : (bytes text : List ℕ) (n : ℕ) → (n < length bytes → is_unescaped (slice_index bytes n) ≡ false)
    → bytes ≡ text → n ≡ 0 → 0 < length text → is_unescaped (slice_index text 0) ≡ false
escaped_first bytes text n behind same none some =
    subst (λ (t : List ℕ). is_unescaped (slice_index t 0) ≡ false) same
    (subst (λ m. m < length bytes → is_unescaped (slice_index bytes m) ≡ false) none behind
    (subst (λ (t : List ℕ). 0 < length t) (sym same) some))

-- ---- names that stand as they are

byte_stands : (x : ℕ) → is_unescaped x ≡ true → escape_byte x ≡ x ∷ []
unfolding escape_byte
byte_stands x is = grind (arith, nat_tests)

pub plain_stands : (name : List ℕ) → is_plain name ≡ true → escape name ≡ name
plain_stands [] is = refl
plain_stands (x ∷ name) is =
    ap₂ (λ front rest. front ++ rest) (byte_stands x (and_left (is_unescaped x) (is_plain name) is))
    (plain_stands name (and_right (is_unescaped x) (is_plain name) is))
