-- The record behind a gate that isn't the last.
use Rattle.std.proofs.Common.{◌≡◌, ⊎_elim, ℕ, ◌+◌, ◌<◌, ◌≤◌, ◌^◌, List, [], ◌∷◌, ◌++◌, length, get_or, take, drop}
use Rattle.std.proofs.Common.{Option, Some, refl, sym, ◌∙◌, ap, subst, arith, append_assoc}
use Rattle.std.proofs.Common.{length-append, take-append-drop}
use Rattle.std.specs.Prelude.{sum_by}
use Rattle.std.specs.Int.{from_be_bytes, w32}
use Rattle.std.proofs.lemmas.List.{drop-drop, drop_at, drop_more, take_all, take_at}
use Rattle.std.proofs.lemmas.Bool.{cases_lt}
use Rattle.std.proofs.lemmas.List.Sums.{sum_by-append}
use Rattle.aas_outside_disk.specs.Files.{Files, file}
use Rattle.aas_outside_disk.specs.declared.part.Part.{Part}
use Rattle.aas_journal.specs.Image.{IsImage, gate_of, records}
use Rattle.aas_journal.specs.Kept.{Keeps}
use Rattle.aas_journal.proofs.Gates.{header_eight}
use Rattle.aas_journal.proofs.Images.{length-records, record_size}
use Rattle.aas_journal.proofs.Records.{read_size, records_then, size, size_four, take_size, drop_size}

pub record RecordAt (file : List ℕ) (at : ℕ) (payload : List ℕ) : Type 0 where
  pub tail : List ℕ
  pub back : drop (at + 1) file ≡ size payload ++ (payload ++ tail)
  pub enough : at + 5 + length payload < length file
  pub short : length payload < 2 ^ 32

records-append : (a b : List (List ℕ)) → records (a ++ b) ≡ records a ++ records b
records-append [] b = refl
records-append (p ∷ a) b =
    ap (λ (l : List ℕ). 1 ∷ (size p ++ (p ++ l))) (records-append a b)
    ∙ ap (λ (l : List ℕ). 1 ∷ (size p ++ l)) (sym (append_assoc p (records a) (records b)))
    ∙ ap (λ (l : List ℕ). 1 ∷ l) (sym (append_assoc (size p) (p ++ records a) (records b)))

module _ (payloads : List (List ℕ)) (n : ℕ) (below : n < length payloads) where
  abbrev here : List ℕ
  here = get_or payloads n []

  split : payloads ≡ take n payloads ++ here ∷ drop (n + 1) payloads
  split =
      sym (take-append-drop n payloads)
      ∙ ap (λ (l : List (List ℕ)). take n payloads ++ l) (drop_more payloads n [] below)

  sums : sum_by record_size payloads
      ≡ sum_by record_size (take n payloads) + (5 + length here) + sum_by record_size (drop (n + 1) payloads)
  sums =
      let more = drop (n + 1) payloads in
      let first : sum_by record_size (take n payloads ++ here ∷ more)
      ≡ sum_by record_size (take n payloads) + sum_by record_size (here ∷ more) =
      sum_by-append record_size (take n payloads) (here ∷ more) in
      let second : sum_by record_size (here ∷ more) ≡ 0 + (5 + length here) + sum_by record_size more =
      sum_by-append record_size (here ∷ []) more in
      omega (arith, ap (λ (l : List (List ℕ)). sum_by record_size l) split, first, second)

  -- the next gate
  pub next_gate_of : gate_of payloads (n + 1) ≡ gate_of payloads n + (5 + length here)
  next_gate_of =
      let more = drop (n + 1) payloads in
      let both : sum_by record_size (take (n + 1) payloads ++ more)
      ≡ sum_by record_size (take (n + 1) payloads) + sum_by record_size more =
      sum_by-append record_size (take (n + 1) payloads) more in
      omega (arith, sums, both, ap (λ (l : List (List ℕ)). sum_by record_size l) (take-append-drop (n + 1) payloads))

  pub next_within : gate_of payloads n + (5 + length here) ≤ gate_of payloads (length payloads)
  next_within = omega (
    arith,
    sums,
    ap (λ (l : List (List ℕ)). sum_by record_size l) (take_all (length payloads) payloads (omega arith)),
  )

  pub gate_below : gate_of payloads n < gate_of payloads (length payloads)
  gate_below = omega (arith, next_within)

  pub record_at : (file : List ℕ) (at : ℕ) → IsImage file payloads → at ≡ gate_of payloads n → RecordAt file at here
  record_at file at image at_is =
      let header = image.has.header in
      let before = header ++ records (take n payloads) in
      let tail = records (drop (n + 1) payloads) ++ image.gate ∷ image.rest in
      let back = size here ++ (here ++ tail) in
      let place : length before ≡ at = omega (
        arith,
        at_is,
        length-append header (records (take n payloads)),
        header_eight header image.has.known,
        length-records (take n payloads),
      ) in
      let all : file ≡ before ++ 1 ∷ back =
      image.has.is
      ∙ ap (λ (l : List ℕ). header ++ (l ++ image.gate ∷ image.rest))
      (ap (λ (l : List (List ℕ)). records l) split ∙ records-append (take n payloads) (here ∷ drop (n + 1) payloads))
      ∙ ap (λ (l : List ℕ). header ++ l)
      (append_assoc (records (take n payloads)) (records (here ∷ drop (n + 1) payloads)) (image.gate ∷ image.rest)
      ∙ ap (λ (l : List ℕ). records (take n payloads) ++ l)
      (records_then here (drop (n + 1) payloads) (image.gate ∷ image.rest)))
      ∙ sym (append_assoc header (records (take n payloads)) (1 ∷ back)) in
      let behind : drop (at + 1) file ≡ back =
      ap (λ (l : List ℕ). drop (at + 1) l) (all ∙ sym (append_assoc before (1 ∷ []) back))
      ∙ drop_at (before ++ 1 ∷ []) back (at + 1) (omega (arith, place, length-append before (1 ∷ []))) in
      record {
        tail = tail;
        back = behind;
        enough = omega (
          arith,
          place,
          ap length all,
          length-append before (1 ∷ back),
          length-append (size here) (here ++ tail),
          length-append here tail,
          length-append (records (drop (n + 1) payloads)) (image.gate ∷ image.rest),
          size_four here,
        );
        short = image.has.short n [] below;
      }

-- the payloads of the files that are told
pub image_told : (seen : Option Files) (images : Files → Type 0)
    (part : Part) (gate : ℕ) (payloads : List (List ℕ)) (files : Files)
    → seen ≡ Some files → Keeps seen images part gate payloads → IsImage (file part files) payloads
image_told seen images part gate payloads files told kept =
    let same : kept.files ≡ files = (let e : Some kept.files ≡ Some files = sym kept.told ∙ told in cc e) in
    subst (λ (f : Files). IsImage (file part f) payloads) same
    (subst (λ (q : Part). IsImage (file q kept.files) payloads) (sym kept.part_is) kept.image)

module _ (file : List ℕ) (at : ℕ) (payload : List ℕ) (it : RecordAt file at payload) where
  pub read_length : (four : List ℕ) → four ≡ take 4 (drop (at + 1) file) → from_be_bytes w32 four ≡ length payload
  read_length four is =
      ap (λ (l : List ℕ). from_be_bytes w32 l)
      (is ∙ ap (λ (l : List ℕ). take 4 l) it.back ∙ take_size payload (payload ++ it.tail))
      ∙ read_size payload it.short

  pub read_payload : (from count : ℕ) → from ≡ at + 5 → count ≡ length payload → take count (drop from file) ≡ payload
  read_payload from count from_is count_is =
      let place : from ≡ at + 1 + 4 = omega (arith, from_is) in
      let behind : drop from file ≡ payload ++ it.tail =
      ap (λ (k : ℕ). drop k file) place ∙ sym (drop-drop 4 (at + 1) file)
      ∙ ap (λ (l : List ℕ). drop 4 l) it.back ∙ drop_size payload (payload ++ it.tail) in
      ap (λ (l : List ℕ). take count l) behind ∙ take_at payload it.tail count (sym count_is)

-- the gate isn't the last
pub not_last : (payloads : List (List ℕ)) (n at gate : ℕ) → n ≤ length payloads
    → at ≡ gate_of payloads n → gate ≡ gate_of payloads (length payloads) → at < gate → n < length payloads
not_last payloads n at gate within at_is gate_is low = ⊎_elim
    (λ below. below)
    (λ above.
    let last : n ≡ length payloads = omega (arith, within, above) in
    absurd (omega (arith, low, at_is, gate_is, ap (λ (k : ℕ). gate_of payloads k) last)))
    (cases_lt n (length payloads))

pub is_last : (payloads : List (List ℕ)) (n at gate : ℕ) → n ≤ length payloads
    → at ≡ gate_of payloads n → gate ≡ gate_of payloads (length payloads) → gate ≤ at → n ≡ length payloads
is_last payloads n at gate within at_is gate_is high = ⊎_elim
    (λ below. absurd (omega (arith, high, at_is, gate_is, gate_below payloads n below)))
    (λ above. omega (arith, within, above))
    (cases_lt n (length payloads))
