-- How far a walk over a file's gates has come.
use Rattle.std.proofs.Common.{◌≡◌, inr, ℕ, ◌+◌, List, [], ◌∷◌, ◌++◌, length, take, drop, refl, sym, ◌∙◌, ap, arith}
use Rattle.std.proofs.Common.{append_assoc, length-append, take-append-drop}
use Rattle.std.specs.Prelude.{codes}
use Rattle.std.proofs.lemmas.List.{drop_at, append-nil}
use Rattle.std.proofs.lemmas.List.Elements.{All-nil}
use Rattle.aas_journal.specs.Gates.{StandsAt}
use Rattle.aas_journal.specs.Image.{IsHeader, gate_of, records}
use Rattle.aas_journal.specs.declared.walk.Gate.TheVariants.{Open}
use Rattle.aas_journal.proofs.Images.{gate_at_end, records-push, short-push}
use Rattle.aas_journal.proofs.Records.{Short, size, size_four}

-- the gate at this place stands behind the records of some payloads
pub record Meets (file : List ℕ) (at : ℕ) : Type 0 where
  pub payloads : List (List ℕ)
  pub header : List ℕ
  pub known : IsHeader header
  pub short : Short payloads
  pub is : file ≡ (header ++ records payloads) ++ drop at file
  pub at_is : at ≡ gate_of payloads (length payloads)

pub begun : (file : List ℕ) → IsHeader (take 8 file) → Meets file 8
begun file known = record {
  payloads = [];
  header = take 8 file;
  known = known;
  short = All-nil (λ (p : List ℕ). _);
  is = sym (take-append-drop 8 file) ∙ ap (λ (l : List ℕ). l ++ drop 8 file) (sym (append-nil (take 8 file)));
  at_is = refl;
}

-- the gate behind one payload more
pub gate_of-push : (payloads : List (List ℕ)) (payload : List ℕ)
    → gate_of (payloads ++ payload ∷ []) (length (payloads ++ payload ∷ []))
    ≡ gate_of payloads (length payloads) + (5 + length payload)
gate_of-push payloads payload =
    let header = codes "AASJ0002" in
    let known : IsHeader header = inr refl in
    omega (
      arith,
      gate_at_end header payloads known,
      gate_at_end header (payloads ++ payload ∷ []) known,
      length-append header (records payloads),
      length-append header (records (payloads ++ payload ∷ [])),
      ap length (records-push payloads payload),
      length-append (records payloads) (1 ∷ (size payload ++ payload)),
      length-append (size payload) payload,
      size_four payload,
    )

module _ (file : List ℕ) (at : ℕ) (meets : Meets file at) where
  abbrev front : List ℕ
  front = meets.header ++ records meets.payloads

  pub further : (next : ℕ) → StandsAt (drop at file) at (Open next) → Meets file next
  further next here =
      let payload = here.0 in
      let rest = here.1 in
      let all = meets.payloads ++ payload ∷ [] in
      let one = 1 ∷ (size payload ++ payload) in
      let place : next ≡ gate_of all (length all) =
      omega (arith, here.4, meets.at_is, gate_of-push meets.payloads payload) in
      let is : file ≡ (meets.header ++ records all) ++ rest =
      meets.is
      ∙ ap (λ (l : List ℕ). front ++ l)
      (here.3 ∙ ap (λ (l : List ℕ). 1 ∷ l) (sym (append_assoc (size payload) payload rest)))
      ∙ sym (append_assoc front one rest)
      ∙ ap (λ (l : List ℕ). l ++ rest)
      (append_assoc meets.header (records meets.payloads) one
      ∙ ap (λ (l : List ℕ). meets.header ++ l) (sym (records-push meets.payloads payload))) in
      let back : drop next file ≡ rest =
      ap (λ (l : List ℕ). drop next l) is
      ∙ drop_at (meets.header ++ records all) rest next (sym (place ∙ gate_at_end meets.header all meets.known)) in
      record {
        payloads = all;
        header = meets.header;
        known = meets.known;
        short = short-push meets.payloads payload meets.short here.2;
        is = is ∙ ap (λ (l : List ℕ). (meets.header ++ records all) ++ l) (sym back);
        at_is = place;
      }
