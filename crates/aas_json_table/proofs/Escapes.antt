-- The bytes of a character, with ~ and / escaped.
use Rattle.std.proofs.Common.{arith, ◌≡◌, ℕ, ◌≤◌, ◌+◌, ◌/◌, ◌%◌, ◌≢◌, List, ◌∷◌, [], ◌++◌, Bool, true, false, nat_lt, refl, ap, ◌∙◌, cond}
use Rattle.std.specs.List.{flat_map}
use Rattle.std.proofs.Math.Utf8.{encode}
use Rattle.aas_json_table.specs.Pointer.{escaped_byte}

-- a byte that stands for itself, before others that do
plain_byte : (b : ℕ) → b ≢ 126 → b ≢ 47 → escaped_byte b ≡ b ∷ []
plain_byte b tilde slash = grind arith

plain_bytes : (b : ℕ) (bs : List ℕ) → b ≢ 126 → b ≢ 47 → flat_map escaped_byte bs ≡ bs → flat_map escaped_byte (b ∷ bs) ≡ b ∷ bs
plain_bytes b bs tilde slash same = ap (λ front. front ++ flat_map escaped_byte bs) (plain_byte b tilde slash) ∙ ap (λ rest. b ∷ rest) same

wide_bytes : (b : ℕ) (bs : List ℕ) → 128 ≤ b → flat_map escaped_byte bs ≡ bs → flat_map escaped_byte (b ∷ bs) ≡ b ∷ bs
wide_bytes b bs wide same = plain_bytes b bs (omega arith) (omega arith) same

by_cases : (b : Bool) (xs ys : List ℕ) → flat_map escaped_byte xs ≡ xs → flat_map escaped_byte ys ≡ ys → flat_map escaped_byte (cond b xs ys) ≡ cond b xs ys
by_cases true xs ys e h = e
by_cases false xs ys e h = h

-- a character that is neither stands for itself
pub escaped_plain : (c : ℕ) → c ≢ 126 → c ≢ 47 → flat_map escaped_byte (encode c) ≡ encode c
unfolding encode
escaped_plain c tilde slash =
    by_cases (nat_lt c 128) _ _ (plain_bytes c [] tilde slash refl)
    (by_cases (nat_lt c 2048) _ _ (wide_bytes (192 + c / 64) _ (omega arith) last)
    (by_cases (nat_lt c 65536) _ _ (wide_bytes (224 + c / 4096) _ (omega arith) (wide_bytes (128 + c / 64 % 64) _ (omega arith) last))
    (wide_bytes (240 + c / 262144) _ (omega arith) (wide_bytes (128 + c / 4096 % 64) _ (omega arith) (wide_bytes (128 + c / 64 % 64) _ (omega arith) last)))))
  where
    last : flat_map escaped_byte ((128 + c % 64) ∷ []) ≡ (128 + c % 64) ∷ []
    last = wide_bytes (128 + c % 64) [] (omega arith) refl
