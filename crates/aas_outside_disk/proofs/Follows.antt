-- How the fields of a disk in memory follow its record.
use Rattle.std.proofs.Common.{◌≡◌, ◌≤◌, ℕ, Bool, true, false, List, [], ◌∷◌, ◌++◌, length, replicate, refl, sym, ◌∙◌}
use Rattle.std.proofs.Common.{ap, ap₂, subst, true≢false}
use Rattle.std.specs.Prelude.{if◌then◌else◌}
use Rattle.std.proofs.lemmas.List.Sums.{fold-append}
use Rattle.aas_outside_disk.specs.declared.crash.Crash.{Crash}
use Rattle.aas_outside_disk.specs.declared.crash.Crash.TheVariants.{Old, New, Ones}
use Rattle.aas_outside_disk.specs.declared.memory_disk.MemDisk.TheInside.{Inside}
use Rattle.aas_outside_disk.specs.declared.memory_files.MemFiles.{MemFiles}
use Rattle.aas_outside_disk.specs.declared.part.Part.{Part}
use Rattle.aas_outside_disk.specs.declared.part.Part.TheVariants.{Main, Spare, Selector}
use Rattle.aas_outside_disk.specs.Disk.{written}
use Rattle.aas_outside_disk.specs.Files.{file, same_part}
use Rattle.aas_outside_disk.specs.FileState.{Step, FileState, settled, after_write, after_step, file_after, crash_of}
use Rattle.aas_outside_disk.specs.MemDisk.{MemDiskState, now, crash_files}
use Rattle.aas_outside_disk.specs.MemDiskInside.{Follows, IsSound, disk_view}
use Rattle.aas_outside_disk.specs.MemDiskLaw.{file-files_of}
use Rattle.aas_outside_disk.specs.MemFile.{MemFileState, after_file_sync, after_file_write, left_by}
use Rattle.aas_outside_disk.specs.MemFiles.{mem_file, with_mem_file}
use Rattle.aas_outside_disk.specs.MemRecord.{MemRecordState}
use Rattle.aas_outside_disk.proofs.Ones.{with_ones-none, with_ones-written}

pub each_part : (P : Part → Type 0) → P Main → P Spare → P Selector → (part : Part) → P part
each_part P main spare selector Main = main
each_part P main spare selector Spare = spare
each_part P main spare selector Selector = selector

-- a file that was just made
pub new_follows : (part : Part) (made : MemFileState) (recorded : MemRecordState) (bytes : List ℕ) (capacity room : ℕ)
    → made ≡ record { base = bytes; seen = bytes; durable = bytes; ones = bytes; capacity = capacity }
    → recorded ≡ record { steps = []; capacity = room }
    → Follows made (file_after part made.base recorded.steps)
new_follows part made recorded bytes capacity room is none choice =
    ap (left_by choice) is
    ∙ begun choice
    ∙ sym (ap₂ (λ (m : MemFileState) (r : MemRecordState). crash_of choice (file_after part m.base r.steps)) is none)
  where
    begun : (choice : Crash)
        → left_by choice (record { base = bytes; seen = bytes; durable = bytes; ones = bytes; capacity = capacity })
        ≡ crash_of choice (settled bytes)
    begun Old = refl
    begun New = refl
    begun Ones = sym (with_ones-none 0 bytes)

pub write_follows : (at : ℕ) (bytes : List ℕ) (f : MemFileState) (s : FileState) → at ≤ length f.seen → Follows f s
    → Follows (after_file_write at bytes f) (after_write at bytes s)
write_follows at bytes f s within follows Old = follows Old
write_follows at bytes f s within follows New = ap (written at bytes) (follows New)
write_follows at bytes f s within follows Ones =
    ap (written at (replicate (length bytes) 1)) (follows Ones)
    ∙ sym (with_ones-written s.ranges at bytes s.seen (subst (λ (l : List ℕ). at ≤ length l) (follows New) within))

pub sync_follows : (f : MemFileState) (s : FileState) → Follows f s → Follows (after_file_sync f) (settled s.seen)
sync_follows f s follows Old = follows New
sync_follows f s follows New = follows New
sync_follows f s follows Ones = follows New ∙ sym (with_ones-none 0 s.seen)

mem_file-with : (part other : Part) (change : MemFileState → MemFileState) (files : MemFiles)
    → mem_file part (with_mem_file other (change (mem_file other files)) files)
    ≡ (if same_part part other then change (mem_file part files) else mem_file part files)
mem_file-with Main Main change files = refl
mem_file-with Main Spare change files = refl
mem_file-with Main Selector change files = refl
mem_file-with Spare Main change files = refl
mem_file-with Spare Spare change files = refl
mem_file-with Spare Selector change files = refl
mem_file-with Selector Main change files = refl
mem_file-with Selector Spare change files = refl
mem_file-with Selector Selector change files = refl

pub same_part-true : (part other : Part) → same_part part other ≡ true → part ≡ other
same_part-true Main Main is = refl
same_part-true Spare Spare is = refl
same_part-true Selector Selector is = refl
same_part-true Main Spare is = absurd (true≢false (sym is))
same_part-true Main Selector is = absurd (true≢false (sym is))
same_part-true Spare Main is = absurd (true≢false (sym is))
same_part-true Spare Selector is = absurd (true≢false (sym is))
same_part-true Selector Main is = absurd (true≢false (sym is))
same_part-true Selector Spare is = absurd (true≢false (sym is))

either_follows : (b : Bool) (f f' : MemFileState) (s s' : FileState) → Follows f s → (b ≡ true → Follows f' s')
    → Follows (if b then f' else f) (if b then s' else s)
either_follows true f f' s s' follows changed = changed refl
either_follows false f f' s s' follows changed = follows

either_keeps : {X : Type 0} (field : MemFileState → X) (b : Bool) (f f' : MemFileState) → field f' ≡ field f
    → field (if b then f' else f) ≡ field f
either_keeps field true f f' kept = kept
either_keeps field false f f' kept = refl

-- one step more, on one of the files
module _ (a : Inside) (sound : IsSound a) (other : Part) (step : Step)
    (change : MemFileState → MemFileState) (advance : FileState → FileState)
    (keeps_base : (f : MemFileState) → (change f).base ≡ f.base)
    (keeps_capacity : (f : MemFileState) → (change f).capacity ≡ f.capacity)
    (step_is : (part : Part) (s : FileState) → after_step part s step ≡ (if same_part part other then advance s else s))
    (moves : (s : FileState)
    → Follows (mem_file other a.files) s → Follows (change (mem_file other a.files)) (advance s))
    (files : MemFiles) (files_is : files ≡ with_mem_file other (change (mem_file other a.files)) a.files)
    (recorded : MemRecordState) (recorded_is : recorded
    ≡ record a.recorded { steps = a.recorded.steps ++ step ∷ [] }) where
  abbrev old : Part → MemFileState
  old part = mem_file part a.files

  abbrev state : Part → FileState
  state part = file_after part (old part).base a.recorded.steps

  file_is : (part : Part) → mem_file part files ≡ (if same_part part other then change (old part) else old part)
  file_is part = ap (mem_file part) files_is ∙ mem_file-with part other change a.files

  kept : {X : Type 0} (field : MemFileState → X) → ((f : MemFileState) → field (change f) ≡ field f) → (part : Part)
      → field (mem_file part files) ≡ field (old part)
  kept field keeps part =
      ap field (file_is part)
      ∙ either_keeps field (same_part part other) (old part) (change (old part)) (keeps (old part))

  state_is : (part : Part) → file_after part (mem_file part files).base recorded.steps
      ≡ (if same_part part other then advance (state part) else state part)
  state_is part =
      ap₂ (λ (b : List ℕ) (r : MemRecordState). file_after part b r.steps)
      (kept (λ f. f.base) keeps_base part) recorded_is
      ∙ fold-append (after_step part) (settled (old part).base) a.recorded.steps (step ∷ [])
      ∙ step_is part (state part)

  changed : (part : Part) → same_part part other ≡ true → Follows (change (old part)) (advance (state part))
  changed part same =
      subst (λ (p : Part).
      (s : FileState) → Follows (mem_file p a.files) s → Follows (change (mem_file p a.files)) (advance s))
      (sym (same_part-true part other same)) moves (state part) (sound.follows part)

  pub step_sound : IsSound (record a { files = files; recorded = recorded })
  step_sound = record {
    follows = λ part choice. ap (left_by choice) (file_is part)
        ∙ either_follows (same_part part other) (old part) (change (old part)) (state part) (advance (state part))
        (sound.follows part) (changed part) choice
        ∙ sym (ap (crash_of choice) (state_is part));
    capacities = λ part. kept (λ f. f.capacity) keeps_capacity part ∙ sound.capacities part;
    record_capacity = ap (λ (r : MemRecordState). r.capacity) recorded_is ∙ sound.record_capacity;
  }

-- what the fields hold is what is left of the files
pub left_is : (a : Inside) (disk : MemDiskState) → disk_view a ≡ disk → IsSound a → (choice : Crash) (part : Part)
    → left_by choice (mem_file part a.files) ≡ file part (crash_files choice disk)
left_is a disk view sound choice part =
    sound.follows part choice
    ∙ ap (λ (b : List ℕ). crash_of choice (file_after part b a.recorded.steps))
    (sym (file-files_of part (λ p. (mem_file p a.files).base)))
    ∙ ap (λ (d : MemDiskState). crash_of choice (now d part)) view
    ∙ sym (file-files_of part (λ p. crash_of choice (now disk p)))
