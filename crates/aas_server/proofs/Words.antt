-- The words of the command line, by their bytes.
use Rattle.std.proofs.Common.{◌≡◌, ℕ, ◌<◌, ◌^◌, Bool, true, false, List, [], ◌∷◌, ◌++◌, length, get_or, decimal, Result}
use Rattle.std.proofs.Common.{Ok, refl, ap, ◌∙◌, arith, lit<, Decides, eq-eqb}
use Rattle.std.specs.Prelude.{◌==◌}
use Rattle.std.specs.List.{list_any}
use Rattle.std.specs.Str.{encode_utf8_all}
use Rattle.std.specs.Str.Parse.{ParsesUnsigned}
use Rattle.std.proofs.Math.Utf8.{encode}
use Rattle.std.proofs.lemmas.Bool.Decides.{same_from_decides, nat_tests}
use Rattle.std.proofs.lemmas.Fmt.{IsAscii-decimal, first_decimal, parse-decimal}
use Rattle.std.proofs.lemmas.Str.{byte_from_char, char_from_byte, encodes-IsAscii}
use Rattle.aas_server.specs.CommandLine.{IsCount, begins_with_dash}

-- ---- the first character

some : (bs : List ℕ) → get_or bs 0 0 ≡ 45 → 0 < length bs
some [] first = cc
some (b ∷ bs) first = omega arith

is_dash : (c : ℕ) → c == 45 ≡ true → c ≡ 45
is_dash c is = grind (arith, nat_tests)

pub dash : (word bs : List ℕ) (r : Bool)
    → bs ≡ encode_utf8_all word → Decides r (get_or bs 0 0 ≡ 45) → r ≡ begins_with_dash word
dash [] bs r is says =
    let none : get_or bs 0 0 ≡ 0 = ap (λ (l : List ℕ). get_or l 0 0) is in
    same_from_decides r false says (λ same. cc, λ first. cc)
dash (c ∷ word) bs r is says = same_from_decides r (c == 45) says (
  λ same. byte_from_char bs (encode_utf8_all word) 45
      (is ∙ ap (λ (x : ℕ). encode x ++ encode_utf8_all word) (is_dash c same)) (lit< tt),
  λ first. eq-eqb c 45 (char_from_byte bs (encode_utf8_all word) c is (omega (arith, first)) (some bs first) ∙ first),
)

above_dash : (word : List ℕ) → 48 < get_or word 0 0 → begins_with_dash word ≡ false
above_dash [] above = refl
above_dash (c ∷ word) above = grind (arith, nat_tests)

-- ---- lists of words

pub lone_word : (word text : List ℕ) → word ≡ text → list_any begins_with_dash (text ∷ []) ≡ false
    → (word ∷ [] ≡ text ∷ []) × (list_any begins_with_dash (word ∷ []) ≡ false)
lone_word word text is no_option =
    let words : word ∷ [] ≡ text ∷ [] = ap (λ (l : List ℕ). l ∷ []) is in
    (words, ap (list_any begins_with_dash) words ∙ no_option)

-- none of them begins with -
pub no_options : (word address count : List ℕ) (n most : ℕ) → most < 2 ^ 32
    → begins_with_dash word ≡ false → begins_with_dash address ≡ false → IsCount most n → count ≡ decimal n
    → list_any begins_with_dash (word ∷ address ∷ count ∷ []) ≡ false
no_options word address count n most small first second within is =
    let third : begins_with_dash count ≡ false =
    ap begins_with_dash is
    ∙ above_dash (decimal n) (first_decimal n (omega (arith, within.0)) (omega (arith, small, within.1))) in
    cc

-- ---- a count

count_bytes : (word bs : List ℕ) (n most : ℕ)
    → most < 2 ^ 32 → bs ≡ encode_utf8_all word → IsCount most n → word ≡ decimal n → bs ≡ decimal n
count_bytes word bs n most small bytes within is =
    bytes ∙ ap encode_utf8_all is ∙ encodes-IsAscii (decimal n) (IsAscii-decimal n (omega (arith, small, within.1)))

-- a word that writes a count is parsed as it
pub parsed : {E : Type 0} (word bs : List ℕ) (n most : ℕ) (r : Result ℕ E)
    → most < 2 ^ 32 → bs ≡ encode_utf8_all word → ParsesUnsigned 32 10 bs r → IsCount most n → word ≡ decimal n
    → (r ≡ Ok n) × (bs ≡ decimal n)
parsed word bs n most r small bytes parses within is =
    let e = count_bytes word bs n most small bytes within is in
    (parse-decimal 32 n bs r (omega (arith, small, within.1)) (omega (arith, small, within.1)) e parses, e)

-- nor with a count behind one word
pub no_option_in_two : (word count : List ℕ) (n most : ℕ)
    → most < 2 ^ 32 → begins_with_dash word ≡ false → IsCount most n → count ≡ decimal n
    → list_any begins_with_dash (word ∷ count ∷ []) ≡ false
no_option_in_two word count n most small first within is =
    let second : begins_with_dash count ≡ false =
    ap begins_with_dash is
    ∙ above_dash (decimal n) (first_decimal n (omega (arith, within.0)) (omega (arith, small, within.1))) in
    cc

-- nor with two words behind one
pub no_option_in_three : (word a b : List ℕ)
    → begins_with_dash word ≡ false → begins_with_dash a ≡ false → begins_with_dash b ≡ false
    → list_any begins_with_dash (word ∷ a ∷ b ∷ []) ≡ false
no_option_in_three word a b first second third = cc
