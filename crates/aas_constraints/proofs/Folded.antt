-- Texts that are equal but for the case of ASCII letters, by bytes and by characters.
use Rattle.std.proofs.Common.{◌≡◌, ◌↔◌, ◌<◌, nat_lt, ℕ, suc, List, [], ◌∷◌, map, Bool, true, IsTrue, codes, refl, sym, ap, ◌∙◌, subst, arith}
use Rattle.std.specs.Char.{to_ascii_lowercase}
use Rattle.std.specs.List.{list_all}
use Rattle.std.specs.Str.{chars, encode_utf8_all, IsAscii}
use Rattle.std.proofs.lemmas.Bool.{ltb-true}
use Rattle.std.proofs.lemmas.Bool.Decides.{same_from_decides, nat_tests}
use Rattle.std.proofs.lemmas.Slice.Eq.{bytes_eq-Decides}
use Rattle.std.proofs.lemmas.Str.{chars-IsAscii, encodes-IsAscii}
use Rattle.std.proofs.lemmas.Str.Ascii.{IsAscii-nil, IsAscii-cons}
use Rattle.aas_constraint_rules.specs.Faults.{is_global_name}
use Rattle.aas_lemmas.proofs.Truth.{and_left, and_right}

lower_ascii : (c : ℕ) → to_ascii_lowercase c < 128 → c < 128
lower_ascii c h = grind (arith, nat_tests)

ascii_of : (cs : List ℕ) → IsAscii (map to_ascii_lowercase cs) → IsAscii cs
ascii_of [] h = IsAscii-nil
ascii_of (c ∷ cs) h = IsAscii-cons c cs (lower_ascii c (h 0)) (ascii_of cs (λ i. h (suc i)))

ascii_word : (cs : List ℕ) → list_all (λ c. nat_lt c 128) cs ≡ true → IsAscii cs
ascii_word [] e = IsAscii-nil
ascii_word (c ∷ cs) e = IsAscii-cons c cs (ltb-true c 128 (and_left (nat_lt c 128) (list_all (λ x. nat_lt x 128) cs) e)) (ascii_word cs (and_right (nat_lt c 128) (list_all (λ x. nat_lt x 128) cs) e))

word : List ℕ
word = codes "globalassetid"

pub same_folded : (s bytes : List ℕ) (answer : Bool) → bytes ≡ encode_utf8_all s → chars bytes ≡ s → IsTrue answer ↔ (map to_ascii_lowercase bytes ≡ map to_ascii_lowercase (codes "globalAssetId"))
    → answer ≡ is_global_name s
unfolding word
same_folded s bytes answer e h k =
    let ascii : IsAscii word = ascii_word word refl in
    same_from_decides answer (is_global_name s) (
      λ yes.
          let folded : map to_ascii_lowercase bytes ≡ word = k.0 yes in
          let same : bytes ≡ s = sym (chars-IsAscii bytes (ascii_of bytes (subst IsAscii (sym folded) ascii))) ∙ h in
          sym (ap (map to_ascii_lowercase) same) ∙ folded,
      λ folded.
          let same : bytes ≡ s = e ∙ encodes-IsAscii s (ascii_of s (subst IsAscii (sym folded) ascii)) in
          k.1 (ap (map to_ascii_lowercase) same ∙ folded),
    ) (bytes_eq-Decides (map to_ascii_lowercase s) word)
