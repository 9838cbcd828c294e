-- The text of a path is UTF-8: a name is ASCII, and so is the number of a place.
use Rattle.std.proofs.Common.{ℕ, ◌<◌, ◌^◌, List, [], ◌∷◌, ◌++◌, subst, sym, arith}
use Rattle.std.specs.Prelude.{codes, decimal, flat_map}
use Rattle.std.specs.List.{AllByRecursion}
use Rattle.std.specs.Str.{IsUtf8, encode_utf8_all}
use Rattle.std.proofs.lemmas.Fmt.{IsAscii-decimal}
use Rattle.std.proofs.lemmas.Str.{IsUtf8-append, IsUtf8-from_ascii, IsUtf8-nil}
use Rattle.aas_lexical.proofs.NamesAscii.{name_ascii, name_bytes}
use Rattle.aas_lexical.specs.Names.{id_short}
use Rattle.aas_model.specs.declared.path.PathStep.{PathStep}
use Rattle.aas_model.specs.declared.path.PathStep.TheVariants.{Name, Place}
use Rattle.aas_path.specs.PathText.{path_text, step_text}
use Rattle.aas_path.proofs.Utf8.{one_utf8}
use Rattle.aas_path_trees.specs.PathRule.{KeepsRule, StepKeepsRule}
use Rattle.aas_command.specs.Commands.{IsPlace}

name_utf8 : (n : List ℕ) → id_short n → IsUtf8 (encode_utf8_all n)
name_utf8 n h = subst IsUtf8 (sym (name_bytes n h.0)) (IsUtf8-from_ascii n (name_ascii n h.0))

place_utf8 : (i : ℕ) → i < 10 ^ 9 → IsUtf8 (step_text (Place i))
place_utf8 i small =
    IsUtf8-append (codes "[") (decimal i ++ codes "]") (one_utf8 91 (omega arith))
    (IsUtf8-append (decimal i) (codes "]")
    (IsUtf8-from_ascii (decimal i) (IsAscii-decimal i (omega (arith, small)))) (one_utf8 93 (omega arith)))

step_utf8 : (s : PathStep) → StepKeepsRule s → IsUtf8 (step_text s)
step_utf8 (Name n) h = IsUtf8-append (codes ".") (encode_utf8_all n) (one_utf8 46 (omega arith)) (name_utf8 n h)
step_utf8 (Place i) h = place_utf8 i h

steps_utf8 : (p : List PathStep) → AllByRecursion StepKeepsRule p → IsUtf8 (flat_map step_text p)
steps_utf8 [] h = IsUtf8-nil
steps_utf8 (s ∷ p) h = IsUtf8-append (step_text s) (flat_map step_text p) (step_utf8 s h.0) (steps_utf8 p h.1)

pub path_text_utf8 : (p : List PathStep) → IsPlace p → IsUtf8 (path_text p)
path_text_utf8 [] h = IsUtf8-nil
path_text_utf8 (Name n ∷ p) h =
    IsUtf8-append (encode_utf8_all n) (flat_map step_text p) (name_utf8 n h.0) (steps_utf8 p h.1)
path_text_utf8 (Place i ∷ p) h = absurd h

-- a path that can be written isn't empty
pub is_place : (p : List PathStep) → KeepsRule p → IsPlace p
is_place [] h = absurd h
is_place (s ∷ p) h = h
