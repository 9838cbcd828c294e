-- What a write and a sync do to what a stop may leave.
use Rattle.std.proofs.Common.{◌≡◌, ⊎_elim, inl, inr, ◌≤◌, ◌<◌, ℕ, ◌+◌, ◌-◌, min, Bool, true, false, List, length, take}
use Rattle.std.proofs.Common.{drop, refl, sym, ◌∙◌, ap, subst, arith, length-drop}
use Rattle.std.specs.Prelude.{if◌then◌else◌, slice_index}
use Rattle.std.proofs.lemmas.Bool.{or_from}
use Rattle.std.proofs.lemmas.List.{ext_get_or, get_or-drop, get_or-take, length-take, length-take-le}
use Rattle.aas_outside_disk.specs.declared.part.Part.{Part}
use Rattle.aas_outside_disk.specs.declared.part.Part.TheVariants.{Main, Spare, Selector}
use Rattle.aas_outside_disk.specs.Disk.{AddsNone, HasAtLeast, Tears, Torn, written}
use Rattle.aas_outside_disk.specs.Files.{Files, file, files_of, same_part}
use Rattle.aas_outside_disk.specs.FileState.{wrote, synced, Range, FileState, is_in, is_written, settled, after_write}
use Rattle.aas_outside_disk.specs.FileState.{after_step, IsLeft}
use Rattle.aas_outside_disk.specs.MemDisk.{AreLeft}
use Rattle.aas_outside_disk.specs.MemDiskLaw.{IsApart, Lies, apart_or_lies, file-files_of, written_apart}
use Rattle.aas_outside_disk.proofs.Follows.{each_part}
use Rattle.aas_outside_disk.proofs.Written.{is_in_apart, length-written_over, written_within}

-- what the last sync made sure of may be left
pub durable_left : (s : FileState) → IsLeft s s.seen → IsLeft s s.durable
durable_left s agrees = record { no_shorter = omega arith; no_longer = agrees.no_shorter; kept = λ place lt none. refl }

-- a sync adds nothing that may be left
synced_left : (s : FileState) → IsLeft s s.seen → (bytes : List ℕ) → IsLeft (settled s.seen) bytes → IsLeft s bytes
synced_left s agrees bytes left = record {
  no_shorter = omega (arith, agrees.no_shorter, left.no_shorter);
  no_longer = left.no_longer;
  kept = λ place lt none. left.kept place (omega (arith, lt, agrees.no_shorter)) refl ∙ agrees.kept place lt none;
}

-- where the ranges are empty what reads give is left alone
pub settled_alone : (bytes left : List ℕ) → IsLeft (settled bytes) left → left ≡ bytes
settled_alone bytes left is =
    let size : length left ≡ length bytes = omega (arith, is.no_shorter, is.no_longer) in
    ext_get_or 0 left bytes size (λ place lt. is.kept place (omega (arith, lt, size)) refl)

either_left : (b : Bool) (s : FileState) → IsLeft s s.seen → (bytes : List ℕ)
    → IsLeft (if b then settled s.seen else s) bytes → IsLeft s bytes
either_left true s agrees bytes left = synced_left s agrees bytes left
either_left false s agrees bytes left = left

-- what is left after a write was left before it, and then torn
module _ (s : FileState) (agrees : IsLeft s s.seen) (at : ℕ) (bytes : List ℕ) (end : ℕ) (short : end ≤ length s.durable)
    (left : List ℕ) (is : IsLeft (after_write at bytes s) left) where
  abbrev n : ℕ
  n = length bytes

  abbrev range : Range
  range = record { at = at; size = n }

  abbrev size : ℕ
  size = length s.durable

  abbrev front : List ℕ
  front = take size left

  -- the old bytes of the range
  abbrev inner : List ℕ
  inner = take n (drop at s.durable)

  abbrev before : List ℕ
  before = written at inner front

  front_size : length front ≡ size
  front_size = length-take-le size left is.no_shorter

  inner_size : length inner ≡ min n (size - at)
  inner_size = omega (arith, length-take n (drop at s.durable), length-drop at s.durable)

  before_size : length before ≡ size
  before_size = length-written_over at inner front (omega (arith, inner_size, front_size)) ∙ front_size

  outside : (place : ℕ) → place < size → IsApart range place → slice_index before place ≡ slice_index left place
  outside place lt out =
      written_apart at inner front place (inner_out out) (omega (arith, lt, front_size))
      ∙ get_or-take size left place 0 lt
    where
      inner_out : IsApart range place → IsApart (record { at = at; size = length inner }) place
      inner_out (inl below) = inl below
      inner_out (inr above) = inr (omega (arith, above, inner_size))

  inside : (place : ℕ) → place < size → Lies range place → slice_index before place ≡ slice_index s.durable place
  inside place lt (from, to) =
      written_within at inner front place (omega (arith, lt, from, front_size)) from
      (omega (arith, lt, from, to, inner_size))
      ∙ get_or-take n (drop at s.durable) (place - at) 0 (omega (arith, from, to))
      ∙ get_or-drop at s.durable (place - at) 0
      ∙ ap (λ (k : ℕ). slice_index s.durable k) (omega (arith, from))

  before_left : IsLeft s before
  before_left = record {
    no_shorter = omega (arith, before_size);
    no_longer = omega (arith, before_size, agrees.no_shorter);
    kept = λ place lt none. ⊎_elim
        (λ out. outside place lt out
        ∙ is.kept place lt (or_from (is_in range place) (is_written s.ranges place) (is_in_apart range place out) none))
        (λ lies. inside place lt lies)
        (apart_or_lies range place);
  }

  low : (place : ℕ) → place < at → place < end
      → slice_index (take (min at end) left) place ≡ slice_index (take (min at end) before) place
  low place below in_end =
      let in_both : place < min at end = omega (arith, below, in_end) in
      get_or-take (min at end) left place 0 in_both
      ∙ sym (outside place (omega (arith, in_end, short)) (inl below))
      ∙ sym (get_or-take (min at end) before place 0 in_both)

  high : (place : ℕ) → at + n + place < end
      → slice_index (drop (at + n) (take end left)) place ≡ slice_index (drop (at + n) (take end before)) place
  high place lt =
      get_or-drop (at + n) (take end left) place 0
      ∙ get_or-take end left (at + n + place) 0 lt
      ∙ sym (outside (at + n + place) (omega (arith, lt, short)) (inr (omega arith)))
      ∙ sym (get_or-take end before (at + n + place) 0 lt)
      ∙ sym (get_or-drop (at + n) (take end before) place 0)

  low_size : (bytes : List ℕ) → size ≤ length bytes → length (take (min at end) bytes) ≡ min at end
  low_size bytes le = omega (arith, le, short, length-take (min at end) bytes)

  high_size : (bytes : List ℕ) → size ≤ length bytes → length (drop (at + n) (take end bytes)) ≡ end - (at + n)
  high_size bytes le = omega (arith, le, short, length-drop (at + n) (take end bytes), length-take end bytes)

  torn : Torn end at n before left
  torn =
      let whole : size ≤ length before = omega (arith, before_size) in
      record {
        before = ext_get_or 0 (take (min at end) left) (take (min at end) before)
            (low_size left is.no_shorter ∙ sym (low_size before whole))
            (λ place lt. low place (omega (arith, lt, low_size left is.no_shorter))
            (omega (arith, lt, low_size left is.no_shorter)));
        after = ext_get_or 0 (drop (at + n) (take end left)) (drop (at + n) (take end before))
            (high_size left is.no_shorter ∙ sym (high_size before whole))
            (λ place lt. high place (omega (arith, lt, high_size left is.no_shorter)));
        no_shorter = omega (arith, short, is.no_shorter);
      }

  pub write_torn : (old : List ℕ) × IsLeft s old × Torn end at n old left
  write_torn = (before, before_left, torn)

-- all three files
module _ (states : Part → FileState) (agree : (part : Part) → IsLeft (states part) (states part).seen) where
  pub sync_adds : (part : Part) → AddsNone (AreLeft states) (AreLeft (λ p. after_step p (states p) (synced part)))
  sync_adds part files left p = either_left (same_part p part) (states p) (agree p) (file p files) (left p)

  pub sync_holds : (part : Part) (files : Files) → AreLeft (λ p. after_step p (states p) (synced part)) files
      → file part files ≡ (states part).seen
  sync_holds Main files left = settled_alone (states Main).seen files.main (left Main)
  sync_holds Spare files left = settled_alone (states Spare).seen files.spare (left Spare)
  sync_holds Selector files left = settled_alone (states Selector).seen files.selector (left Selector)

  -- each file has at least what its last sync made sure of
  least : (part : Part) (end : ℕ) → HasAtLeast part end (AreLeft states) → end ≤ length (states part).durable
  least part end each =
      let durable = λ (p : Part). (states p).durable in
      let all : AreLeft states (files_of durable) =
      λ p. subst (IsLeft (states p)) (sym (file-files_of p durable)) (durable_left (states p) (agree p)) in
      subst (λ (l : List ℕ). end ≤ length l) (file-files_of part durable) (each (files_of durable) all)

  pub write_tears : (part : Part) (at : ℕ) (bytes : List ℕ)
      → Tears part at (length bytes) (AreLeft states) (AreLeft (λ p. after_step p (states p) (wrote part at bytes)))
  write_tears Main at bytes end each files left =
      let d = write_torn (states Main) (agree Main) at bytes end (least Main end each) files.main (left Main) in
      let old = record files { main = d.0 } in
      (old, each_part (λ p. IsLeft (states p) (file p old)) d.1 (left Spare) (left Selector), (refl, refl), d.2)
  write_tears Spare at bytes end each files left =
      let d = write_torn (states Spare) (agree Spare) at bytes end (least Spare end each) files.spare (left Spare) in
      let old = record files { spare = d.0 } in
      (old, each_part (λ p. IsLeft (states p) (file p old)) (left Main) d.1 (left Selector), (refl, refl), d.2)
  write_tears Selector at bytes end each files left =
      let d = write_torn (states Selector) (agree Selector) at bytes end
      (least Selector end each) files.selector (left Selector) in
      let old = record files { selector = d.0 } in
      (old, each_part (λ p. IsLeft (states p) (file p old)) (left Main) (left Spare) d.1, (refl, refl), d.2)
