-- That what reads give of a disk in memory may be left by a stop.
use Rattle.std.specs.Prelude.{◌≡◌, ◌⊎◌, ℕ, ◌+◌, ◌-◌, ◌<◌, ◌≤◌, true, false, if◌then◌else◌, nat_le, nat_lt, IsFalse}
use Rattle.std.specs.Prelude.{IsTrue, List, [], ◌∷◌, ◌++◌, length, take, drop, slice_index, Some, refl}
use Rattle.std.specs.List.{fold}
use Rattle.std.proofs.Common.{arith, ⊎_elim, inl, inr, sym, ◌∙◌, ap, subst, length-append, length-drop, true≢false}
use Rattle.std.proofs.lemmas.Bool.{and_from, cases_lt, le-leb, lt-ltb, or_parts}
use Rattle.std.proofs.lemmas.List.{get_or-append_right, get_or-drop, get_or-take, get_or_append_left, length-take}
use Rattle.std.proofs.lemmas.List.{length-take-le, take_all}
use Rattle.aas_outside_disk.specs.declared.part.Part.{Part}
use Rattle.aas_outside_disk.specs.declared.part.Part.TheVariants.{Main, Spare, Selector}
use Rattle.aas_outside_disk.specs.Disk.{written}
use Rattle.aas_outside_disk.specs.Files.{Files, file, files_of, same_part}
use Rattle.aas_outside_disk.specs.FileState.{Step, wrote, synced, Range, FileState, is_in, is_written, settled}
use Rattle.aas_outside_disk.specs.FileState.{after_write, after_step, IsLeft}
use Rattle.aas_outside_disk.specs.MemDisk.{MemDiskState, AreLeft, after_steps, clock, disk_left_at, now, seen_files}

pub file-files_of : (part : Part) (bytes : Part → List ℕ) → file part (files_of bytes) ≡ bytes part
file-files_of Main bytes = refl
file-files_of Spare bytes = refl
file-files_of Selector bytes = refl

-- the place lies below the range or past it
abbrev pub IsApart : Range → ℕ → Type 0
IsApart range place = (place < range.at) ⊎ (range.at + range.size ≤ place)

-- or it lies in it
abbrev pub Lies : Range → ℕ → Type 0
Lies range place = (range.at ≤ place) × (place < range.at + range.size)

pub apart_or_lies : (range : Range) (place : ℕ) → IsApart range place ⊎ Lies range place
apart_or_lies range place = ⊎_elim
    (λ below. inl (inl below))
    (λ from. ⊎_elim (λ to. inr (from, to)) (λ above. inl (inr above)) (cases_lt place (range.at + range.size)))
    (cases_lt place range.at)

pub is_in_where_it_lies : (range : Range) (place : ℕ) → Lies range place → IsTrue (is_in range place)
is_in_where_it_lies range place (from, to) =
    and_from (nat_le range.at place) (nat_lt place (range.at + range.size)) (le-leb range.at place from)
    (lt-ltb place (range.at + range.size) to)

-- where nothing was written there, a place lies apart from the first range and in none of the others
pub apart_from_first : (range : Range) (ranges : List Range) (place : ℕ) → IsFalse (is_written (range ∷ ranges) place)
    → IsApart range place × IsFalse (is_written ranges place)
apart_from_first range ranges place none =
    let parts = or_parts (is_in range place) (is_written ranges place) none in (
      ⊎_elim
          (λ apart. apart)
          (λ lies. absurd (true≢false (sym (is_in_where_it_lies range place lies) ∙ parts.0)))
          (apart_or_lies range place),
      parts.1,
    )

-- a write of bytes at a place
module _ (at : ℕ) (bytes old : List ℕ) where
  abbrev rest : List ℕ
  rest = drop (at + length bytes) old

  pub written_no_shorter : length old ≤ length (written at bytes old)
  written_no_shorter =
      omega (
        arith,
        length-append (take at old) (bytes ++ rest),
        length-append bytes rest,
        length-take at old,
        length-drop (at + length bytes) old,
      )

  -- changes nothing outside its range
  pub written_apart : (place : ℕ) → IsApart (record { at = at; size = length bytes }) place → place < length old
      → slice_index (written at bytes old) place ≡ slice_index old place
  written_apart place (inl below) within =
      get_or_append_left (take at old) (bytes ++ rest) 0 place (omega (arith, below, within, length-take at old))
      ∙ get_or-take at old place 0 below
  written_apart place (inr above) within =
      let size : length (take at old) ≡ at = length-take-le at old (omega (arith, above, within)) in
      get_or-append_right (take at old) (bytes ++ rest) at place 0 size (omega (arith, above))
      ∙ get_or-append_right bytes rest (length bytes) (place - at) 0 refl (omega (arith, above))
      ∙ get_or-drop (at + length bytes) old (place - at - length bytes) 0
      ∙ ap (λ (k : ℕ). slice_index old k) (omega (arith, above))

pub settled_left : (bytes : List ℕ) → IsLeft (settled bytes) bytes
settled_left bytes = record { no_shorter = omega arith; no_longer = omega arith; kept = λ place lt none. refl }

write_left : (s : FileState) (at : ℕ) (bytes : List ℕ)
    → IsLeft s s.seen → IsLeft (after_write at bytes s) (written at bytes s.seen)
write_left s at bytes left = record {
  no_shorter = omega (arith, left.no_shorter, written_no_shorter at bytes s.seen);
  no_longer = omega arith;
  kept = λ place lt none.
      let parts = apart_from_first (record { at = at; size = length bytes }) s.ranges place none in
      written_apart at bytes s.seen place parts.0 (omega (arith, lt, left.no_shorter)) ∙ left.kept place lt parts.1;
}

step_left : (part : Part) (s : FileState) (step : Step)
    → IsLeft s s.seen → IsLeft (after_step part s step) (after_step part s step).seen
step_left part s (wrote other at bytes) left =
    elim (same_part part other) as (λ b. let t = if b then after_write at bytes s else s in IsLeft t t.seen) [
      | true ↦ write_left s at bytes left
      | false ↦ left
    ]
step_left part s (synced other) left =
    elim (same_part part other) as (λ b. let t = if b then settled s.seen else s in IsLeft t t.seen) [
      | true ↦ settled_left s.seen
      | false ↦ left
    ]

steps_left : (part : Part) (steps : List Step) (s : FileState) → IsLeft s s.seen
    → IsLeft (fold (after_step part) s steps) (fold (after_step part) s steps).seen
steps_left part [] s left = left
steps_left part (step ∷ steps) s left = steps_left part steps (after_step part s step) (step_left part s step left)

-- what reads give of a file may be left
pub seen_left : (base : Files) (steps : List Step) (part : Part)
    → IsLeft (after_steps base steps part) (after_steps base steps part).seen
seen_left base steps part = steps_left part steps (settled (file part base)) (settled_left (file part base))

-- what may be left now
pub now_left : (disk : MemDiskState) (files : Files) → AreLeft (now disk) files → disk_left_at disk (clock disk) files
now_left disk files left =
    let all : take (clock disk) disk.steps ≡ disk.steps = take_all (clock disk) disk.steps (omega arith) in
    (omega arith, subst (λ (steps : List Step). AreLeft (after_steps disk.base steps) files) (sym all) left)

pub seen_law : (disk : MemDiskState) (files : Files)
    → Some (seen_files disk) ≡ Some files → disk_left_at disk (clock disk) files
seen_law disk files is =
    let same : seen_files disk ≡ files = cc in
    let seen = λ (part : Part). (now disk part).seen in
    now_left disk files (subst (AreLeft (now disk)) same
    (λ part. subst (IsLeft (now disk part)) (sym (file-files_of part seen)) (seen_left disk.base disk.steps part)))
