-- What is cut for a name, a language and a version is its form.
use Rattle.std.proofs.Common.{◌≡◌, ℕ, ◌↔◌, Bool, false, List, [], ◌++◌, Some, refl, arith}
use Rattle.std.specs.Char.{is_ascii_digit, is_ascii_alphabetic, is_ascii_alphanumeric}
use Rattle.aas_lexical_forms.specs.Form.{lit, among, run, up_to, Many, ◌▸◌}
use Rattle.aas_lexical_forms.specs.Cut.{cut_all}
use Rattle.aas_lexical_forms.proofs.Begin.{Stops, Apart-among, Avoids-one, Avoids-lit, Avoids-then, Needs-word, past_many}
use Rattle.aas_lexical_forms.proofs.Cuts.{Cuts, End, Cuts-lit, Cuts-one, Cuts-any, Cuts-run, Cuts-then, Cuts-next, Cuts-either, whole}
use Rattle.aas_lexical_forms.proofs.Repeat.{Nonempty, Nonempty-lit, Nonempty-then, Cuts-many, Cuts-up_to}
use Rattle.aas_lexical.specs.Names.{language, is_nonzero_digit, version, is_name_character, name, id_short}
use Rattle.aas_lexical.proofs.Loops.{Loops, loops}
use Rattle.aas_lexical.specs.Cut.Names.{after_subtag, after_subtags, after_language, after_version, after_name, after_id_short}

-- ---- languages

abbrev subtag : List ℕ → Type 0
subtag = lit "-" ▸ up_to 8 (run is_ascii_alphanumeric)

subtag_cuts : Cuts subtag (Stops is_ascii_alphanumeric) after_subtag
subtag_cuts = Cuts-next (Cuts-lit "-") (Cuts-up_to (Cuts-run is_ascii_alphanumeric) 8)

subtag_long : Nonempty subtag
subtag_long = Nonempty-then (Nonempty-lit "-" (omega arith))

-- groups that begin with a minus begin with no byte of a class without it
subtags_past : (class : ℕ → Bool) → class 45 ≡ false → (y z : List ℕ) → Many subtag y → End z → Stops class (y ++ z)
subtags_past class k y z h e = past_many (Avoids-then (Avoids-lit "-" class (λ z. k))) y z h (rw e tt)

pub subtags_loop : Loops after_subtag
subtags_loop = loops subtag_cuts subtag_long

subtags_cuts : Cuts (Many subtag) End (cut_all after_subtags)
subtags_cuts = Cuts-many subtag_cuts subtag_long (λ z k. rw k refl) (subtags_past is_ascii_alphanumeric refl)

pub language_exact : (t : List ℕ) → (after_language t ≡ Some []) ↔ language t
language_exact t = whole (Cuts-then (Cuts-up_to (Cuts-run is_ascii_alphabetic) 8) subtags_cuts (subtags_past is_ascii_alphabetic refl)) refl t

-- ---- versions and names

pub version_exact : (t : List ℕ) → (after_version t ≡ Some []) ↔ version t
version_exact t = whole (Cuts-either (Cuts-lit "0") (Cuts-next (Cuts-one is_nonzero_digit) (Cuts-up_to (Cuts-any is_ascii_digit) 3)) {Next = End}
    (Needs-word 48 []) (Avoids-then (Avoids-one is_nonzero_digit (among "0") (Apart-among "123456789" (among "0") refl))) (λ z k. (tt, rw k tt))) refl t

name_cuts : Cuts name (Stops is_name_character) after_name
name_cuts = Cuts-next (Cuts-one is_ascii_alphabetic) (Cuts-any is_name_character)

pub name_exact : (t : List ℕ) → (after_name t ≡ Some []) ↔ name t
name_exact t = whole name_cuts tt t

pub id_short_exact : (t : List ℕ) → (after_id_short t ≡ Some []) ↔ id_short t
id_short_exact t = whole (Cuts-up_to name_cuts 128) tt t
