-- Bytes with 1 in each place that was written.
use Rattle.std.proofs.Common.{◌≡◌, inl, inr, ⊎_elim, ◌≤◌, ◌<◌, ℕ, zero, suc, ◌+◌, ◌-◌, max, Bool, ◌||◌, List, [], ◌∷◌}
use Rattle.std.proofs.Common.{length, replicate, refl, sym, ◌∙◌, ap, arith}
use Rattle.std.specs.Prelude.{if◌then◌else◌, slice_index}
use Rattle.std.proofs.lemmas.List.{ext_get_or, get_or-replicate, length-replicate}
use Rattle.aas_outside_disk.specs.Disk.{written}
use Rattle.aas_outside_disk.specs.FileState.{Range, is_in, is_written, with_ones}
use Rattle.aas_outside_disk.specs.MemDiskLaw.{IsApart, Lies, apart_or_lies, is_in_where_it_lies, written_apart}
use Rattle.aas_outside_disk.proofs.Written.{is_in_apart, length-written, written_within}

pub length-with_ones : (ranges : List Range) (place : ℕ) (bytes : List ℕ)
    → length (with_ones ranges place bytes) ≡ length bytes
length-with_ones ranges place [] = refl
length-with_ones ranges place (byte ∷ bytes) = ap suc (length-with_ones ranges (suc place) bytes)

pub with_ones-none : (place : ℕ) (bytes : List ℕ) → with_ones [] place bytes ≡ bytes
with_ones-none place [] = refl
with_ones-none place (byte ∷ bytes) = ap (λ (l : List ℕ). byte ∷ l) (with_ones-none (suc place) bytes)

-- the byte at a place of a list that begins at a place
marked_from : (ranges : List Range) (first : ℕ) (bytes : List ℕ) (i place : ℕ) → place ≡ first + i → i < length bytes
    → slice_index (with_ones ranges first bytes) i ≡ (if is_written ranges place then 1 else slice_index bytes i)
marked_from ranges first [] i place is lt = absurd (omega (arith, lt))
marked_from ranges first (byte ∷ bytes) zero place is lt =
    let same : first ≡ place = omega (arith, is) in ap (λ (p : ℕ). if is_written ranges p then 1 else byte) same
marked_from ranges first (byte ∷ bytes) (suc i) place is lt =
    marked_from ranges (suc first) bytes i place (omega (arith, is)) (omega (arith, lt))

pub marked : (ranges : List Range) (bytes : List ℕ) (place : ℕ) → place < length bytes
    → slice_index (with_ones ranges 0 bytes) place ≡ (if is_written ranges place then 1 else slice_index bytes place)
marked ranges bytes place lt = marked_from ranges 0 bytes place place (omega arith) lt

-- ones that are written where bytes are
module _ (ranges : List Range) (at : ℕ) (bytes seen : List ℕ) (within : at ≤ length seen) where
  abbrev n : ℕ
  n = length bytes

  abbrev range : Range
  range = record { at = at; size = n }

  abbrev ones : List ℕ
  ones = replicate n 1

  ones_size : length ones ≡ n
  ones_size = length-replicate {A = ℕ} n 1

  abbrev before : List ℕ
  before = with_ones ranges 0 seen

  before_size : length before ≡ length seen
  before_size = length-with_ones ranges 0 seen

  abbrev after : List ℕ
  after = with_ones (range ∷ ranges) 0 (written at bytes seen)

  after_size : length after ≡ max (length seen) (at + n)
  after_size = length-with_ones (range ∷ ranges) 0 (written at bytes seen) ∙ length-written at bytes seen within

  same_size : length after ≡ length (written at ones before)
  same_size = omega (
    arith,
    after_size,
    ones_size,
    before_size,
    within,
    length-written at ones before (omega (arith, within, before_size)),
  )

  -- whether a place is marked after the write, by whether it lies in the range
  marked_by : (place : ℕ) (b : Bool) → place < length after → is_in range place ≡ b
      → slice_index after place
      ≡ (if b || is_written ranges place then 1 else slice_index (written at bytes seen) place)
  marked_by place b lt is =
      marked (range ∷ ranges) (written at bytes seen) place
      (omega (arith, lt, length-with_ones (range ∷ ranges) 0 (written at bytes seen)))
      ∙ ap (λ (b : Bool). if b || is_written ranges place then 1 else slice_index (written at bytes seen) place) is

  outside : (place : ℕ) → place < length after → IsApart range place → place < length seen
      → slice_index after place ≡ slice_index (written at ones before) place
  outside place lt out in_seen =
      marked_by place _ lt (is_in_apart range place out)
      ∙ ap (λ (byte : ℕ). if is_written ranges place then 1 else byte) (written_apart at bytes seen place out in_seen)
      ∙ sym (marked ranges seen place in_seen)
      ∙ sym (written_apart at ones before place (ones_out out) (omega (arith, in_seen, before_size)))
    where
      ones_out : IsApart range place → IsApart (record { at = at; size = length ones }) place
      ones_out (inl below) = inl below
      ones_out (inr above) = inr (omega (arith, above, ones_size))

  inside : (place : ℕ) → place < length after → Lies range place
      → slice_index after place ≡ slice_index (written at ones before) place
  inside place lt lies =
      marked_by place _ lt (is_in_where_it_lies range place lies)
      ∙ sym (get_or-replicate n (place - at) 1 0 (omega (arith, lies.0, lies.1)))
      ∙ sym (written_within at ones before place
      (omega (arith, within, before_size)) lies.0 (omega (arith, lies.1, ones_size)))

  in_seen : (place : ℕ) → place < length after → IsApart range place → place < length seen
  in_seen place lt (inl below) = omega (arith, below, within)
  in_seen place lt (inr above) = omega (arith, lt, after_size, above)

  pub with_ones-written : after ≡ written at ones before
  with_ones-written = ext_get_or 0 after (written at ones before) same_size (λ place lt. ⊎_elim
      (λ out. outside place lt out (in_seen place lt out))
      (λ lies. inside place lt lies)
      (apart_or_lies range place))
