-- The text of a path is UTF-8.
use Rattle.std.proofs.Common.{◌≡◌, ℕ, ◌+◌, ◌<◌, ◌^◌, List, [], ◌∷◌, ◌++◌, length, take, get_or, sym, ap, ◌∙◌, subst, arith}
use Rattle.std.specs.Prelude.{codes, decimal, flat_map}
use Rattle.std.specs.Str.{IsUtf8, encode_utf8_all}
use Rattle.std.proofs.Math.Numerals.{add-one}
use Rattle.std.proofs.Math.Seq.{take-suc}
use Rattle.std.proofs.lemmas.Fmt.{IsAscii-decimal}
use Rattle.std.proofs.lemmas.Grind.{flat_map-append}
use Rattle.std.proofs.lemmas.List.{append-nil, append_assoc}
use Rattle.std.proofs.lemmas.Str.{IsUtf8-append, IsUtf8-from_ascii}
use Rattle.std.proofs.lemmas.Str.Ascii.{IsAscii-nil, IsAscii-cons}
use Rattle.aas_model.specs.declared.path.PathStep.{PathStep}
use Rattle.aas_model.specs.declared.path.PathStep.TheVariants.{Name, Place}
use Rattle.aas_path.specs.PathText.{fault_path_text, first_step_text, path_text, step_text}

pub one_utf8 : (c : ℕ) → c < 128 → IsUtf8 (c ∷ [])
one_utf8 c small = IsUtf8-from_ascii (c ∷ []) (IsAscii-cons c [] small IsAscii-nil)

pub place_utf8 : (i : ℕ) → i < 2 ^ 64 → IsUtf8 (step_text (Place i))
place_utf8 i small =
    IsUtf8-append (codes "[") (decimal i ++ codes "]") (one_utf8 91 (omega arith))
    (IsUtf8-append (decimal i) (codes "]") (IsUtf8-from_ascii (decimal i) (IsAscii-decimal i small)) (one_utf8 93 (omega arith)))

pub dotted_utf8 : (n : List ℕ) → IsUtf8 (encode_utf8_all n) → IsUtf8 (step_text (Name n))
dotted_utf8 n utf8 = IsUtf8-append (codes ".") (encode_utf8_all n) (one_utf8 46 (omega arith)) utf8

pub steps_utf8 : (s : PathStep) (p : List PathStep) → IsUtf8 (first_step_text s) → IsUtf8 (flat_map step_text p) → IsUtf8 (path_text (s ∷ p))
steps_utf8 s p first rest = IsUtf8-append (first_step_text s) (flat_map step_text p) first rest

pub dollar_utf8 : IsUtf8 (fault_path_text [])
dollar_utf8 = one_utf8 36 (omega arith)

-- ---- one step more

grows : (steps : List PathStep) (i : ℕ) (s : PathStep) → i < length steps → s ≡ get_or steps i s
    → flat_map step_text (take (i + 1) steps) ≡ flat_map step_text (take i steps) ++ step_text s
grows steps i s within is =
    ap (λ (n : ℕ). flat_map step_text (take n steps)) (add-one i)
    ∙ ap (flat_map step_text) (take-suc steps i s within)
    ∙ flat_map-append step_text (take i steps) (get_or steps i s ∷ [])
    ∙ ap (λ (t : PathStep). flat_map step_text (take i steps) ++ flat_map step_text (t ∷ [])) (sym is)
    ∙ ap (λ (x : List ℕ). flat_map step_text (take i steps) ++ x) (append-nil (step_text s))

pub next : (before so_far after : List ℕ) (steps : List PathStep) (i : ℕ) (s : PathStep) → i < length steps → s ≡ get_or steps i s
    → (so_far ≡ before ++ flat_map step_text (take i steps)) × IsUtf8 (flat_map step_text (take i steps))
    → after ≡ so_far ++ step_text s → IsUtf8 (step_text s)
    → (after ≡ before ++ flat_map step_text (take (i + 1) steps)) × IsUtf8 (flat_map step_text (take (i + 1) steps))
next before so_far after steps i s within is (old, utf8) new utf8_s =
    let more = grows steps i s within is in (
      new ∙ ap (λ (x : List ℕ). x ++ step_text s) old ∙ append_assoc before (flat_map step_text (take i steps)) (step_text s)
          ∙ ap (λ (x : List ℕ). before ++ x) (sym more),
      subst IsUtf8 (sym more) (IsUtf8-append (flat_map step_text (take i steps)) (step_text s) utf8 utf8_s),
    )
