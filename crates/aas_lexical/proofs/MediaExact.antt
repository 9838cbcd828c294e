-- What is cut for a media type is its form.
use Rattle.std.proofs.Common.{◌≡◌, ℕ, ◌↔◌, Bool, false, List, [], ◌∷◌, ◌++◌, Option, Some, None, refl, append_assoc, arith}
use Rattle.std.proofs.lemmas.Bool.Decides.{nat_tests}
use Rattle.std.specs.List.{list_all}
use Rattle.std.proofs.lemmas.Bool.{and_parts}
use Rattle.aas_lexical_forms.specs.Form.{lit, among, one, any, run, Many, ◌∣◌, ◌▸◌}
use Rattle.aas_lexical_forms.specs.Cut.{after_one, cut_all, cut_either, first_of}
use Rattle.aas_lexical_forms.proofs.Begin.{Stops, Apart, Apart-among, Apart-swap, Avoids, Avoids-one, Avoids-run, Avoids-lit, Avoids-then, Avoids-either, Needs-one, Needs-run, Needs-word, Needs-then, past_many}
use Rattle.aas_lexical_forms.proofs.Cuts.{Cuts, Anything, End, Cuts-lit, Cuts-one, Cuts-any, Cuts-run, Cuts-then, Cuts-next, Cuts-apart, Cuts-either, whole}
use Rattle.aas_lexical_forms.proofs.Repeat.{Nonempty, Nonempty-one, Nonempty-lit, Nonempty-then, Nonempty-behind, Nonempty-either, Cuts-many}
use Rattle.aas_lexical.specs.Media.{is_token_byte, is_space, is_printable, is_plain, is_lead, is_continuation, high, quoted_character, quoted, parameter, media_type}
use Rattle.aas_lexical.proofs.Loops.{Loops, loops}
use Rattle.aas_lexical.specs.Cut.Media.{after_high, after_pair, after_quoted_character, after_quoted_characters, after_quoted, after_value, after_parameter, after_parameters, after_media_type}

-- ---- the characters between quotes

lead_plain : Apart is_lead is_plain
lead_plain b h = grind (arith, nat_tests)

lead_printable : Apart is_lead is_printable
lead_printable b h = grind (arith, nat_tests)

high_cuts : Cuts high Anything after_high
high_cuts = Cuts-next (Cuts-one is_lead) (Cuts-one is_continuation)

-- a character above U+007F begins with no byte of the class
high_no : (class : ℕ → Bool) → Apart is_lead class → Avoids high class
high_no class k = Avoids-then (Avoids-one is_lead class k)

pair_cuts : Cuts (lit "\\" ▸ (one is_printable ∣ high)) Anything after_pair
pair_cuts = Cuts-next (Cuts-lit "\\")
    (Cuts-either (Cuts-one is_printable) high_cuts {Next = Anything} (Needs-one is_printable) (high_no is_printable lead_printable) (λ z k. (tt, tt)))

-- a pair begins with no byte of a class without `\`
pair_no : (class : ℕ → Bool) → class 92 ≡ false → Avoids (lit "\\" ▸ (one is_printable ∣ high)) class
pair_no class k = Avoids-then (Avoids-lit "\\" class (λ z. k))

quoted_character_cuts : Cuts quoted_character Anything after_quoted_character
quoted_character_cuts = Cuts-either (Cuts-one is_plain)
    (Cuts-either high_cuts pair_cuts {Next = Anything} (Needs-then (Needs-one is_lead) _) (pair_no is_lead refl) (λ z k. (tt, tt)))
    {Next = Anything} (Needs-one is_plain) (Avoids-either (high_no is_plain lead_plain) (pair_no is_plain refl)) (λ z k. (tt, tt))

quoted_character_long : Nonempty quoted_character
quoted_character_long = Nonempty-either (Nonempty-one is_plain)
    (Nonempty-either (Nonempty-then (Nonempty-one is_lead)) (Nonempty-then (Nonempty-lit "\\" (omega arith))))

pub quoted_characters_loop : Loops after_quoted_character
quoted_characters_loop = loops quoted_character_cuts quoted_character_long

-- what may follow: a text that begins with none of the three kinds of characters
abbrev CharactersEnd : List ℕ → Type 0
CharactersEnd z = Stops is_plain z × Stops is_lead z × Stops (among "\\") z

none_of_three : (x y w : Option (List ℕ)) → x ≡ None → y ≡ None → w ≡ None → first_of x (first_of y w) ≡ None
none_of_three x y w a b c = rw (a, b) c

characters_end : (z : List ℕ) → CharactersEnd z → after_quoted_character z ≡ None
characters_end z k = none_of_three (after_one is_plain z) (after_high z) (after_pair z)
    ((Needs-one is_plain).fails z k.0)
    ((Needs-then (Needs-one is_lead) (after_one is_continuation)).fails z k.1)
    ((Needs-then (Needs-word 92 []) (cut_either (after_one is_printable) after_high)).fails z k.2)

characters_cuts : Cuts (Many quoted_character) CharactersEnd (cut_all after_quoted_characters)
characters_cuts = Cuts-many quoted_character_cuts quoted_character_long characters_end (λ y z h k. tt)

-- a quote begins with no byte of a class without it
quote_no : (class : ℕ → Bool) → class 34 ≡ false → Avoids (lit "\"") class
quote_no class k = Avoids-lit "\"" class (λ z. k)

quoted_cuts : Cuts quoted Anything after_quoted
quoted_cuts = Cuts-next (Cuts-lit "\"") (Cuts-then characters_cuts (Cuts-lit "\"") (λ y z h k. (
  (quote_no is_plain refl).avoids y z h,
  (quote_no is_lead refl).avoids y z h,
  (quote_no (among "\\") refl).avoids y z h,
)))

-- ---- parameters

value_cuts : Cuts (run is_token_byte ∣ quoted) (Stops is_token_byte) after_value
value_cuts = Cuts-either (Cuts-run is_token_byte) quoted_cuts (Needs-run is_token_byte) (Avoids-then (quote_no is_token_byte refl)) (λ z k. (k, tt))

space_token : Apart is_space is_token_byte
space_token = Apart-among " \t" is_token_byte refl

parameter_cuts : Cuts parameter (Stops is_token_byte) after_parameter
parameter_cuts =
    Cuts-apart (Cuts-any is_space) (Cuts-next (Cuts-lit ";")
    (Cuts-apart (Cuts-any is_space) (Cuts-apart (Cuts-run is_token_byte) (Cuts-next (Cuts-lit "=") value_cuts)
    (Avoids-then (Avoids-lit "=" is_token_byte (λ z. refl))))
    (Avoids-then (Avoids-run is_token_byte is_space (Apart-swap is_space is_token_byte space_token)))))
    (Avoids-then (Avoids-lit ";" is_space (λ z. refl)))

spaces_past : (y z : List ℕ) → any is_space y → Stops is_token_byte z → Stops is_token_byte (y ++ z)
spaces_past [] z h k = k
spaces_past (b ∷ y) z h k = space_token b (and_parts (is_space b) (list_all is_space y) h).0

-- a parameter begins with a space or a semicolon, and so with no byte of a token
parameter_avoids : (x z : List ℕ) → parameter x → Stops is_token_byte (x ++ z)
parameter_avoids x z h = rw (h.2, append_assoc) (spaces_past h.0 (h.1 ++ z) h.3 ((Avoids-then (Avoids-lit ";" is_token_byte (λ z. refl))).avoids h.1 z h.4))

-- and so do parameters up to the end
parameters_past : (y z : List ℕ) → Many parameter y → End z → Stops is_token_byte (y ++ z)
parameters_past y z h k = past_many (record { avoids = parameter_avoids }) y z h (rw k tt)

parameter_long : Nonempty parameter
parameter_long = Nonempty-behind (Nonempty-then (Nonempty-lit ";" (omega arith)))

pub parameters_loop : Loops after_parameter
parameters_loop = loops parameter_cuts parameter_long

parameters_cuts : Cuts (Many parameter) End (cut_all after_parameters)
parameters_cuts = Cuts-many parameter_cuts parameter_long (λ z k. rw k refl) parameters_past

-- ---- the whole

pub media_type_exact : (t : List ℕ) → (after_media_type t ≡ Some []) ↔ media_type t
media_type_exact t = whole
    (Cuts-apart (Cuts-run is_token_byte) (Cuts-next (Cuts-lit "/") (Cuts-then (Cuts-run is_token_byte) parameters_cuts parameters_past))
    (Avoids-then (Avoids-lit "/" is_token_byte (λ z. refl))))
    refl t
