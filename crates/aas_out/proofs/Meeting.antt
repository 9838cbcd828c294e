-- Bytes that were met are what was put.
use Rattle.std.proofs.Common.{◌≡◌, ℕ, ◌+◌, ◌-◌, ◌≤◌, List, [], ◌++◌, take, drop, length, append_assoc, ap, sym, subst}
use Rattle.std.proofs.Common.{refl, ◌∙◌, arith}
use Rattle.std.proofs.lemmas.List.{length-append, length-drop, length-take-le, take_all, take_at, take-append-drop}
use Rattle.std.proofs.lemmas.Option.{same_Some}
use Rattle.std.proofs.lemmas.Str.{IsUtf8-append, IsUtf8-had}
use Rattle.std.specs.Prelude.{Some}
use Rattle.std.specs.Str.{IsUtf8}
use Rattle.aas_out.specs.Adds.{Adds}
use Rattle.aas_out.specs.MatchTold.{match_told}
use Rattle.aas_out.specs.Told.{Wrote}
use Rattle.aas_out.specs.declared.pouring.Pouring.{Pouring}
use Rattle.aas_out.specs.declared.pouring.Pouring.TheVariants.{Going, Stopped}

-- what is left, as the code takes it
abbrev pub rest : List ℕ → ℕ → List ℕ
rest bytes met = take (length bytes - met) (drop met bytes)

rest_is : (bytes : List ℕ) (met : ℕ) → rest bytes met ≡ drop met bytes
rest_is bytes met = take_all (length bytes - met) (drop met bytes) (omega (arith, length-drop met bytes))

-- what was met, and a piece that follows
pub met_more : (bytes piece : List ℕ) (met : ℕ) → met ≤ length bytes → take (length piece) (rest bytes met) ≡ piece
    → take (met + length piece) bytes ≡ take met bytes ++ piece
met_more bytes piece met within front =
    let left : List ℕ = drop (length piece) (drop met bytes) in
    let next : take (length piece) (drop met bytes) ≡ piece =
    ap (take (length piece)) (sym (rest_is bytes met)) ∙ front in
    let follows : drop met bytes ≡ piece ++ left =
    sym (take-append-drop (length piece) (drop met bytes)) ∙ ap (λ l. l ++ left) next in
    let whole : bytes ≡ (take met bytes ++ piece) ++ left =
    sym (take-append-drop met bytes) ∙ ap (λ l. take met bytes ++ l) follows
    ∙ sym (append_assoc (take met bytes) piece left) in
    let long : length (take met bytes ++ piece) ≡ met + length piece =
    length-append (take met bytes) piece ∙ ap (λ k. k + length piece) (length-take-le met bytes within) in
    ap (take (met + length piece)) whole ∙ take_at (take met bytes ++ piece) left (met + length piece) long

-- the bytes go on with what is put
pub met_is_put : (bytes piece : List ℕ) (met faults : ℕ) → met ≤ length bytes
    → take (length piece) (rest bytes met) ≡ piece
    → Wrote (match_told bytes met faults) (match_told bytes (met + length piece) faults) piece
met_is_put bytes piece met faults within front = record {
  sent = ap Some (met_more bytes piece met within front);
  count = refl;
  later = omega arith;
  gone = ([], refl);
  kept = refl;
}

pub met_utf8 : (bytes piece : List ℕ) (met : ℕ) → met ≤ length bytes → take (length piece) (rest bytes met) ≡ piece
    → ∥ IsUtf8 (take met bytes) ∥₁ → IsUtf8 piece → IsUtf8 (take (met + length piece) bytes)
met_utf8 bytes piece met within front before utf8 =
    subst IsUtf8 (sym (met_more bytes piece met within front))
    (IsUtf8-append (take met bytes) piece (IsUtf8-had (take met bytes) before) utf8)

pub all_utf8 : (bytes : List ℕ) (met : ℕ) → met ≡ length bytes → ∥ IsUtf8 (take met bytes) ∥₁ → IsUtf8 bytes
all_utf8 bytes met all utf8 =
    subst IsUtf8 (take_all met bytes (omega (arith, all))) (IsUtf8-had (take met bytes) utf8)

-- where nothing was met before, the pouring went on, and all bytes were met in the end
pub all_met : (bytes now : List ℕ) (met before faults : ℕ) (after : Pouring) (poured : List ℕ)
    → Adds Going after (match_told bytes 0 before) (match_told now met faults) poured → after ≡ Going
    → take met now ≡ now → bytes ≡ poured
unfolding Adds
all_met bytes now met before faults Going poured h going all =
    sym h.kept ∙ sym all ∙ same_Some (take met now) poured h.sent
all_met bytes now met before faults Stopped poured h going all = absurd (cc)
