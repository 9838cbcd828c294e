-- The two writes of a `keep`, in what reads give and in what a stop leaves.
use Rattle.std.proofs.Common.{◌≡◌, ⊎_elim, ℕ, ◌+◌, ◌<◌, ◌≤◌, min, Option, Some, true, false, List, [], ◌∷◌, ◌++◌}
use Rattle.std.proofs.Common.{length, take, drop, sym, ◌∙◌, ap, ap₂, subst, arith}
use Rattle.std.specs.Int.{to_be_bytes, w32}
use Rattle.std.specs.Prelude.{Err, IsErr, Ok, OnOk, Result}
use Rattle.std.proofs.lemmas.Bool.{cases_lt}
use Rattle.std.proofs.lemmas.List.{append-nil, drop-drop, drop_at, length-take-le, take-append-le, take-take}
use Rattle.std.proofs.lemmas.Result.{on_ok_weaker}
use Rattle.aas_outside.specs.Frame.{frame_bytes}
use Rattle.aas_outside_disk.specs.Disk.{Changes, DiskState, PassesOn, Tears, Torn, Writes, WritesAt, written}
use Rattle.aas_outside_disk.specs.Files.{Files, SameOthers, file}
use Rattle.aas_outside_disk.specs.declared.part.Part.{Part}
use Rattle.aas_journal.specs.Image.{gate_of}
use Rattle.aas_journal.specs.Keep.{TearsRecord, WritesRecord, record_and_gate}
use Rattle.aas_journal.specs.Kept.{Keeps}
use Rattle.aas_journal.proofs.Changes.{others_then}
use Rattle.aas_journal.proofs.Disks.{told}

-- an open gate and a frame
record_is : (payload : List ℕ) → record_and_gate payload ≡ 1 ∷ frame_bytes payload
record_is payload = ap (λ (l : List ℕ). 1 ∷ ((to_be_bytes w32 (length payload) ++ l) ++ 0 ∷ [])) (append-nil payload)

-- a byte at a place, written after the bytes behind it
written_before : (byte at : ℕ) (bytes file : List ℕ)
    → at < length file → written at (byte ∷ []) (written (at + 1) bytes file) ≡ written at (byte ∷ bytes) file
written_before byte at bytes file within =
    let front = take (at + 1) file in
    let behind = bytes ++ drop (at + 1 + length bytes) file in
    let size : length front ≡ at + 1 = length-take-le (at + 1) file (omega (arith, within)) in
    let low : take at (front ++ behind) ≡ take at file =
    take-append-le at front behind (omega (arith, size)) ∙ take-take at (at + 1) file (omega arith) in
    ap₂ (λ (a b : List ℕ). a ++ byte ∷ b) low (drop_at front behind (at + 1) size)
    ∙ ap (λ (k : ℕ). take at file ++ byte ∷ (bytes ++ drop k file)) (omega arith)

module _ (byte at : ℕ) (bytes a b : List ℕ) (first : WritesAt (at + 1) (length bytes) a b) where
  -- a range behind a place lies in the one from there
  behind_place : WritesAt at (length (byte ∷ bytes)) a b
  behind_place = record {
    before =
        sym (take-take at (at + 1) b (omega arith))
        ∙ ap (λ (l : List ℕ). take at l) first.before ∙ take-take at (at + 1) a (omega arith);
    after = subst (λ (k : ℕ). drop k b ≡ drop k a) (omega arith) first.after;
    no_shorter = first.no_shorter;
    no_longer = omega (arith, first.no_longer);
  }

  -- and so does the place
  then_place : (c : List ℕ) → WritesAt at 1 b c → WritesAt at (length (byte ∷ bytes)) a c
  then_place c second = record {
    before = second.before ∙ behind_place.before;
    after =
        subst (λ (k : ℕ). drop k c ≡ drop k a) (omega arith)
        (sym (drop-drop (length bytes) (at + 1) c) ∙ ap (λ (l : List ℕ). drop (length bytes) l) second.after
        ∙ drop-drop (length bytes) (at + 1) b ∙ first.after);
    no_shorter = omega (arith, first.no_shorter, second.no_shorter);
    no_longer = omega (arith, first.no_longer, second.no_longer);
  }

-- the same of torn writes
module _ (byte at end : ℕ) (bytes a b : List ℕ) (first : Torn end (at + 1) (length bytes) a b) where
  torn_behind_place : Torn end at (length (byte ∷ bytes)) a b
  torn_behind_place =
      let lower = λ (l : List ℕ). take-take (min at end) (min (at + 1) end) l (omega arith) in
      record {
        before = sym (lower b) ∙ ap (λ (l : List ℕ). take (min at end) l) first.before ∙ lower a;
        after = subst (λ (k : ℕ). drop k (take end b) ≡ drop k (take end a)) (omega arith) first.after;
        no_shorter = first.no_shorter;
      }

  torn_then_place : (c : List ℕ) → Torn end at 1 b c → Torn end at (length (byte ∷ bytes)) a c
  torn_then_place c second =
      let further = λ (l : List ℕ). drop-drop (length bytes) (at + 1) (take end l) in
      record {
        before = second.before ∙ torn_behind_place.before;
        after =
            subst (λ (k : ℕ). drop k (take end c) ≡ drop k (take end a)) (omega arith)
            (sym (further c) ∙ ap (λ (l : List ℕ). drop (length bytes) l) second.after ∙ further b ∙ first.after);
        no_shorter = second.no_shorter;
      }

no_ok : {T E : Type 0} (A : Type 0) (r : Result T E) → IsErr r → OnOk r A
no_ok A (Ok v) is = absurd (let no : false ≡ true = is in cc no)
no_ok A (Err e) is = tt

-- each answer that is no Ok says the same of a write
pub fails_so : {E F : Type 0} (part : Part) (at : ℕ) (bytes : List ℕ) (a : Files)
    (old new : Option Files) (r : Result (Unit {0}) E) (s : Result (Unit {0}) F)
    → old ≡ Some a → IsErr s
    → Writes part at bytes old new r → Writes part at bytes old new s
fails_so part at bytes a old new r s told_is is writes =
    let t = told a old new _ told_is writes in
    subst (λ (n : Option Files). Writes part at bytes old n s) (sym t.1)
    (subst (λ (o : Option Files). Writes part at bytes o (Some t.0) s) (sym told_is) (t.2.0, t.2.1, no_ok _ s is))

-- What the journal keeps before a `keep`.
module _ (before : Option Files) (images : Files → Type 0) (part : Part) (gate : ℕ)
    (payloads : List (List ℕ)) (kept : Keeps before images part gate payloads) (payload frame : List ℕ)
    (frame_is : frame ≡ frame_bytes payload) where
  abbrev files : Files
  files = kept.files

  abbrev Wrote : {E : Type 0} → Part → ℕ → List ℕ → Files → Result (Unit {0}) E → Type 0
  Wrote q at bytes c result =
      SameOthers q files c × WritesAt at (length bytes) (file q files) (file q c)
      × OnOk result (file q c ≡ written at bytes (file q files))

  writes : {E : Type 0} (after : Option Files) (c : Files) (result : Result (Unit {0}) E)
      → after ≡ Some c → Wrote part gate (1 ∷ frame) c result → WritesRecord payloads payload before after result
  writes after c result after_is wrote =
      let bytes = subst (λ (l : List ℕ). Wrote part gate l c result)
      (ap (λ (l : List ℕ). 1 ∷ l) frame_is ∙ sym (record_is payload)) wrote in
      let at = subst (λ (k : ℕ). Wrote part k (record_and_gate payload) c result) kept.gate_is bytes in
      let here = subst (λ (q : Part). Wrote q (gate_of payloads (length payloads)) (record_and_gate payload) c result)
      kept.part_is at in
      subst (λ (n : Option Files). WritesRecord payloads payload before n result) (sym after_is)
      (subst (λ (o : Option Files). WritesRecord payloads payload o (Some c) result) (sym kept.told) here)

  -- after the second write
  pub writes_both : {E : Type 0} (F : Type 0) (mid new : Option Files) (result : Result (Unit {0}) E)
      → gate < length (file part files) → Writes {E = F} part (gate + 1) frame before mid (Ok tt)
      → Writes part gate (1 ∷ []) mid new result → WritesRecord payloads payload before new result
  writes_both F mid new result within first second =
      let t = told files before mid _ kept.told first in
      let u = told t.0 mid new _ t.1 second in
      writes new u.0 result u.1 (
        others_then part files t.0 u.0 t.2.0 u.2.0,
        then_place 1 gate frame (file part files) (file part t.0) t.2.1 (file part u.0) u.2.1,
        on_ok_weaker result
            (λ (is : file part u.0 ≡ written gate (1 ∷ []) (file part t.0)). is
            ∙ ap (λ (l : List ℕ). written gate (1 ∷ []) l) t.2.2 ∙ written_before 1 gate frame (file part files) within)
            u.2.2,
      )

  tears : (new : Files → Type 0)
      → Tears part gate (length (1 ∷ frame)) images new → TearsRecord payloads payload before images new
  tears new torn =
      let bytes = subst (λ (l : List ℕ). Tears part gate (length l) images new)
      (ap (λ (l : List ℕ). 1 ∷ l) frame_is ∙ sym (record_is payload)) torn in
      let at = subst (λ (k : ℕ). Tears part k (length (record_and_gate payload)) images new) kept.gate_is bytes in
      let here =
      subst (λ (q : Part). Tears q (gate_of payloads (length payloads)) (length (record_and_gate payload)) images new)
      kept.part_is at in
      subst (λ (o : Option Files). TearsRecord payloads payload o images new) (sym kept.told) here

-- What a journal keeps, and what a stop leaves in the first write.
module _ (old : DiskState) (part : Part) (gate : ℕ) (payloads : List (List ℕ))
    (kept : Keeps old.seen (old.left_at old.moment) part gate payloads) (payload frame : List ℕ)
    (frame_is : frame ≡ frame_bytes payload) (mid : DiskState)
    (images1 : Changes old mid (Tears part (gate + 1) (length frame))) where
  tears_in_first : (t : ℕ) → old.moment ≤ t → t ≤ mid.moment
      → Tears part gate (length (1 ∷ frame)) (old.left_at old.moment) (mid.left_at t)
  tears_in_first t since until end least c left =
      let from = images1 t since until end least c left in
      (from.0, from.1, from.2, torn_behind_place 1 gate end frame (file part from.0) (file part c) from.3)

  pub tears_first : Changes old mid (TearsRecord payloads payload old.seen)
  tears_first t since until =
      tears old.seen (old.left_at old.moment) part gate payloads kept payload frame frame_is
      (mid.left_at t) (tears_in_first t since until)

  -- and in the second
  pub tears_both : old.moment ≤ mid.moment → (new : DiskState) → PassesOn mid new
      → Changes mid new (Tears part gate 1) → Changes old new (TearsRecord payloads payload old.seen)
  tears_both later new past images2 t since until =
      tears old.seen (old.left_at old.moment) part gate payloads kept payload frame frame_is
      (new.left_at t) (λ end least c left. ⊎_elim
      (λ low. tears_in_first t since (omega (arith, low)) end least c ((past.past t (omega (arith, low)) c).0 left))
      (λ high.
      let begun = λ (b : Files) (h : mid.left_at mid.moment b). images1 mid.moment later (omega arith) end least b h in
      let late = images2 t high until end (λ b h. (begun b h).3.no_shorter) c left in
      let early = begun late.0 late.1 in (
        early.0,
        early.1,
        others_then part early.0 late.0 c early.2 late.2,
        torn_then_place 1 gate end frame (file part early.0) (file part late.0) early.3 (file part c) late.3,
      ))
      (cases_lt t mid.moment))
