-- What a write makes of bytes.
use Rattle.std.proofs.Common.{◌≡◌, ⊎_elim, ◌≤◌, ◌<◌, ℕ, ◌+◌, ◌-◌, max, List, ◌++◌, length, take, drop, sym, ◌∙◌, ap}
use Rattle.std.proofs.Common.{arith, append_assoc, length-append, length-drop}
use Rattle.std.specs.Prelude.{IsFalse, nat_le, nat_lt, slice_index}
use Rattle.std.proofs.lemmas.Bool.{and_left, and_right, le-ltb, lt-leb}
use Rattle.std.proofs.lemmas.List.{drop_at, get_or-append_right, get_or_append_left, length-take}
use Rattle.std.proofs.lemmas.List.{length-take-le, take_at}
use Rattle.aas_outside_disk.specs.Disk.{written, WritesAt}
use Rattle.aas_outside_disk.specs.FileState.{Range, is_in}
use Rattle.aas_outside_disk.specs.MemDiskLaw.{IsApart, written_no_shorter}

pub is_in_apart : (range : Range) (place : ℕ) → IsApart range place → IsFalse (is_in range place)
is_in_apart range place apart = ⊎_elim
    (λ below. and_left (nat_le range.at place) (nat_lt place (range.at + range.size)) (lt-leb range.at place below))
    (λ above. and_right (nat_le range.at place) (nat_lt place (range.at + range.size))
    (le-ltb place (range.at + range.size) above))
    apart

module _ (at : ℕ) (bytes old : List ℕ) where
  abbrev rest : List ℕ
  rest = drop (at + length bytes) old

  length-all : length (written at bytes old) ≡ length (take at old) + (length bytes + length rest)
  length-all = omega (arith, length-append (take at old) (bytes ++ rest), length-append bytes rest)

  pub length-written : at ≤ length old → length (written at bytes old) ≡ max (length old) (at + length bytes)
  length-written within = omega (arith, within, length-all, length-take at old, length-drop (at + length bytes) old)

  -- the length stays where all bytes lie within it, or none are there
  pub length-written_over : length bytes ≤ length old - at → length (written at bytes old) ≡ length old
  length-written_over fits = omega (arith, fits, length-all, length-take at old, length-drop (at + length bytes) old)

  pub written_within : (place : ℕ) → at ≤ length old → at ≤ place → place < at + length bytes
      → slice_index (written at bytes old) place ≡ slice_index bytes (place - at)
  written_within place within from below =
      get_or-append_right (take at old) (bytes ++ rest) at place 0 (length-take-le at old within) from
      ∙ get_or_append_left bytes rest 0 (place - at) (omega (arith, from, below))

  pub writes_at : at ≤ length old → WritesAt at (length bytes) old (written at bytes old)
  writes_at within =
      let size : length (take at old) ≡ at = length-take-le at old within in
      record {
        before = take_at (take at old) (bytes ++ rest) at size;
        after = ap (λ (l : List ℕ). drop (at + length bytes) l) (sym (append_assoc (take at old) bytes rest))
            ∙ drop_at (take at old ++ bytes) rest (at + length bytes)
            (omega (arith, size, length-append (take at old) bytes));
        no_shorter = written_no_shorter at bytes old;
        no_longer = omega (arith, length-written within);
      }
