-- A name is ASCII, so its bytes are its characters.
use Rattle.std.proofs.Common.{◌≡◌, ℕ, ◌<◌, true, List, [], ◌∷◌, ◌++◌, sym, ap, ◌∙◌, subst, arith}
use Rattle.std.proofs.lemmas.Bool.Decides.{nat_tests}
use Rattle.std.proofs.lemmas.Str.{encodes-IsAscii, encodes_same}
use Rattle.std.proofs.lemmas.Str.Ascii.{IsAscii-nil, IsAscii-cons}
use Rattle.std.specs.Char.{is_ascii_alphabetic}
use Rattle.std.specs.List.{list_all}
use Rattle.std.specs.Str.{IsAscii, encode_utf8_all}
use Rattle.std.proofs.lemmas.Bool.{and_parts}
use Rattle.aas_lexical_forms.specs.Form.{one, any}
use Rattle.aas_lexical.specs.Names.{is_name_character, name}

letter_ascii : (c : ℕ) → is_ascii_alphabetic c ≡ true → c < 128
letter_ascii c h = grind (arith, nat_tests)

character_ascii : (c : ℕ) → is_name_character c ≡ true → c < 128
character_ascii c h = grind (arith, nat_tests)

characters_ascii : (n : List ℕ) → any is_name_character n → IsAscii n
characters_ascii [] h = IsAscii-nil
characters_ascii (c ∷ n) h = let s = and_parts (is_name_character c) (list_all is_name_character n) h in IsAscii-cons c n (character_ascii c s.0) (characters_ascii n s.1)

parts_ascii : (n front back : List ℕ) → n ≡ front ++ back → one is_ascii_alphabetic front → any is_name_character back → IsAscii n
parts_ascii n [] back whole first rest = absurd first
parts_ascii n (c ∷ front) back whole first rest =
    let is : n ≡ c ∷ back = whole ∙ ap (λ (f : List ℕ). (c ∷ f) ++ back) first.1 in
    subst IsAscii (sym is) (IsAscii-cons c back (letter_ascii c first.0) (characters_ascii back rest))

pub name_ascii : (n : List ℕ) → name n → IsAscii n
name_ascii n h = parts_ascii n h.0 h.1 h.2 h.3 h.4

-- the bytes of a name
pub name_bytes : (s : List ℕ) → name s → encode_utf8_all s ≡ s
name_bytes s h = encodes-IsAscii s (name_ascii s h)

-- a text whose bytes are a name
pub bytes_name : (s : List ℕ) → name (encode_utf8_all s) → encode_utf8_all s ≡ s
bytes_name s h = encodes_same (encode_utf8_all s) s (encodes-IsAscii (encode_utf8_all s) (name_ascii (encode_utf8_all s) h))
