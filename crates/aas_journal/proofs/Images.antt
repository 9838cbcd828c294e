-- Images of one list of payloads, and of that with one more.
use Rattle.std.proofs.Common.{◌≡◌, ◌≢◌, ◌⊎◌, inl, inr, ⊎_elim, ℕ, ◌+◌, ◌≤◌, ◌<◌, ◌^◌, List, [], ◌∷◌, ◌++◌, length, take}
use Rattle.std.proofs.Common.{drop, refl, sym, ◌∙◌, ap, arith, append_assoc, length-append}
use Rattle.std.specs.Prelude.{sum_by}
use Rattle.std.proofs.lemmas.Bool.{cases_eq}
use Rattle.std.proofs.lemmas.List.{append-nil, take_all}
use Rattle.std.proofs.lemmas.List.Elements.{All-append, All-cons, All-nil}
use Rattle.std.proofs.lemmas.List.Sums.{sum_by-append}
use Rattle.aas_outside.specs.Frame.{frame_bytes}
use Rattle.aas_outside_disk.specs.Disk.{written, Torn}
use Rattle.aas_journal.specs.Image.{IsHeader, IsImage, gate_of, records}
use Rattle.aas_journal.proofs.Gates.{header_eight}
use Rattle.aas_journal.proofs.Records.{Short, size, size_four}
use Rattle.aas_journal.proofs.Torn.{long, torn_behind, torn_gate, written_behind, written_gate}

abbrev pub record_size : List ℕ → ℕ
record_size payload = 5 + length payload

pub length-records : (payloads : List (List ℕ)) → length (records payloads) ≡ sum_by record_size payloads
length-records [] = refl
length-records (payload ∷ payloads) =
    let first : sum_by record_size (payload ∷ payloads) ≡ 0 + (5 + length payload) + sum_by record_size payloads =
    sum_by-append record_size (payload ∷ []) payloads in
    omega (
      arith,
      first,
      length-append (size payload) (payload ++ records payloads),
      length-append payload (records payloads),
      size_four payload,
      length-records payloads,
    )

pub records-push : (payloads : List (List ℕ)) (payload : List ℕ)
    → records (payloads ++ payload ∷ []) ≡ records payloads ++ 1 ∷ (size payload ++ payload)
records-push [] payload = ap (λ (l : List ℕ). 1 ∷ (size payload ++ l)) (append-nil payload)
records-push (first ∷ payloads) payload =
    ap (λ (l : List ℕ). 1 ∷ (size first ++ (first ++ l))) (records-push payloads payload)
    ∙ ap (λ (l : List ℕ). 1 ∷ (size first ++ l))
    (sym (append_assoc first (records payloads) (1 ∷ (size payload ++ payload))))
    ∙ ap (λ (l : List ℕ). 1 ∷ l)
    (sym (append_assoc (size first) (first ++ records payloads) (1 ∷ (size payload ++ payload))))

pub short-push : (payloads : List (List ℕ)) (payload : List ℕ)
    → Short payloads → length payload < 2 ^ 32 → Short (payloads ++ payload ∷ [])
short-push payloads payload short small =
    All-append (λ (p : List ℕ). length p < 2 ^ 32) payloads (payload ∷ []) short
    (All-cons (λ (p : List ℕ). length p < 2 ^ 32) payload [] small (All-nil (λ (p : List ℕ). length p < 2 ^ 32)))

-- the place of the gate behind all
pub gate_at_end : (header : List ℕ) (payloads : List (List ℕ))
    → IsHeader header → gate_of payloads (length payloads) ≡ length (header ++ records payloads)
gate_at_end header payloads known =
    let all : take (length payloads) payloads ≡ payloads = take_all (length payloads) payloads (omega arith) in
    omega (
      arith,
      ap (λ (l : List (List ℕ)). sum_by record_size l) all,
      length-records payloads,
      length-append header (records payloads),
      header_eight header known,
    )

pub closed_image : (header : List ℕ) (payloads : List (List ℕ)) (file : List ℕ) (gate : ℕ) (rest : List ℕ)
    → IsHeader header → Short payloads → file ≡ (header ++ records payloads) ++ gate ∷ rest → gate ≢ 1
    → IsImage file payloads
closed_image header payloads file gate rest known short is closed = record {
  gate = gate;
  rest = rest;
  has = record {
    header = header;
    known = known;
    is = is ∙ append_assoc header (records payloads) (gate ∷ rest);
    short = short;
  };
  closed = closed;
}

-- behind an open gate stands a frame, whose last byte is a closed gate
pub opened_image : (header : List ℕ) (payloads : List (List ℕ)) (payload file more : List ℕ)
    → IsHeader header → Short payloads → length payload < 2 ^ 32
    → file ≡ (header ++ records payloads) ++ 1 ∷ (frame_bytes payload ++ more) → IsImage file (payloads ++ payload ∷ [])
opened_image header payloads payload file more known short small is =
    let front = records payloads in
    let one = 1 ∷ (size payload ++ payload) in
    let whole : (header ++ front) ++ 1 ∷ (frame_bytes payload ++ more)
    ≡ (header ++ records (payloads ++ payload ∷ [])) ++ 0 ∷ more =
    ap (λ (l : List ℕ). (header ++ front) ++ 1 ∷ l) (append_assoc (size payload ++ payload) (0 ∷ []) more)
    ∙ append_assoc header front (one ++ 0 ∷ more)
    ∙ ap (λ (l : List ℕ). header ++ l)
    (sym (append_assoc front one (0 ∷ more)) ∙ ap (λ (l : List ℕ). l ++ 0 ∷ more) (sym (records-push payloads payload)))
    ∙ sym (append_assoc header (records (payloads ++ payload ∷ [])) (0 ∷ more)) in
    closed_image header (payloads ++ payload ∷ []) file 0 more known
    (short-push payloads payload short small) (is ∙ whole) (omega arith)

module _ (payloads : List (List ℕ)) (gate : ℕ) (at : gate ≡ gate_of payloads (length payloads))
    (file : List ℕ) (image : IsImage file payloads) where
  abbrev front : List ℕ
  front = image.has.header ++ records payloads

  front_at : gate ≡ length front
  front_at = at ∙ gate_at_end image.has.header payloads image.has.known

  file_is : file ≡ front ++ image.gate ∷ image.rest
  file_is = image.has.is ∙ sym (append_assoc image.has.header (records payloads) (image.gate ∷ image.rest))

  pub holds_gate : gate + 1 ≤ length file
  holds_gate = long front gate front_at file image.gate image.rest file_is

  -- a stop in a write behind the gate
  pub staging : (n : ℕ) (new : List ℕ) → Torn (gate + 1) (gate + 1) n file new → IsImage new payloads
  staging n new torn =
      closed_image image.has.header payloads new image.gate (drop (gate + 1) new) image.has.known image.has.short
      (torn_behind front gate front_at file image.gate image.rest file_is n new torn) image.closed

  module _ (payload : List ℕ) (small : length payload < 2 ^ 32) (staged : List ℕ)
      (staged_is : staged ≡ written (gate + 1) (frame_bytes payload) file) where
    abbrev behind : List ℕ
    behind = drop (gate + 1 + length (frame_bytes payload)) file

    has_frame : staged ≡ front ++ image.gate ∷ (frame_bytes payload ++ behind)
    has_frame =
        written_behind front gate front_at file image.gate image.rest file_is (frame_bytes payload) staged staged_is

    -- a stop in the write of the gate
    pub opening : (new : List ℕ)
        → Torn (length staged) gate 1 staged new → IsImage new payloads ⊎ IsImage new (payloads ++ payload ∷ [])
    opening new torn =
        let t = torn_gate front gate front_at staged image.gate (frame_bytes payload ++ behind) has_frame new torn in
        let is : new ≡ front ++ t.0 ∷ (frame_bytes payload ++ (behind ++ t.1)) =
        t.2 ∙ ap (λ (l : List ℕ). front ++ t.0 ∷ l) (append_assoc (frame_bytes payload) behind t.1) in
        ⊎_elim
        (λ one. inr (opened_image image.has.header payloads payload new (behind ++ t.1) image.has.known
        image.has.short small (is ∙ ap (λ (b : ℕ). front ++ b ∷ (frame_bytes payload ++ (behind ++ t.1))) one)))
        (λ shut. inl (closed_image image.has.header payloads new t.0
        (frame_bytes payload ++ (behind ++ t.1)) image.has.known image.has.short is shut))
        (cases_eq t.0 1)

    pub opened : (new : List ℕ) → new ≡ written gate (1 ∷ []) staged → IsImage new (payloads ++ payload ∷ [])
    opened new new_is =
        opened_image image.has.header payloads payload new behind image.has.known image.has.short small
        (written_gate front gate front_at staged image.gate (frame_bytes payload ++ behind) has_frame 1 new new_is)

  pub next_gate : (payload : List ℕ)
      → gate + length (frame_bytes payload) ≡ gate_of (payloads ++ payload ∷ []) (length (payloads ++ payload ∷ []))
  next_gate payload = omega (
    arith,
    front_at,
    gate_at_end image.has.header (payloads ++ payload ∷ []) image.has.known,
    length-append image.has.header (records payloads),
    length-append image.has.header (records (payloads ++ payload ∷ [])),
    ap length (records-push payloads payload),
    length-append (records payloads) (1 ∷ (size payload ++ payload)),
    length-append (size payload) payload,
    length-append (size payload ++ payload) (0 ∷ []),
  )
