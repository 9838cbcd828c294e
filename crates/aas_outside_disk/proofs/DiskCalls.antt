-- What the steps that a call made mean for what is read and for what a stop may leave.
use Rattle.std.proofs.Common.{◌≡◌, ◌⊎◌, ⊎_elim, inl, inr, ◌≤◌, ℕ, ◌+◌, Bool, true, false, List, [], ◌∷◌, ◌++◌, length}
use Rattle.std.proofs.Common.{take, Some, Result, Ok, Err, refl, sym, ◌∙◌, ap, subst, arith, length-append}
use Rattle.std.specs.Prelude.{OnOk, if◌then◌else◌, is_ok, IsTrue}
use Rattle.std.specs.List.{fold}
use Rattle.std.proofs.lemmas.Bool.{cases_lt, true≢false}
use Rattle.std.proofs.lemmas.List.{take-append-le, take_all}
use Rattle.std.proofs.lemmas.List.Sums.{fold-append}
use Rattle.aas_outside_disk.specs.declared.part.Part.{Part}
use Rattle.aas_outside_disk.specs.declared.part.Part.TheVariants.{Main, Spare, Selector}
use Rattle.aas_outside_disk.specs.Disk.{AddsNone, HoldsWhatIsRead, Meanwhile, Tears, Writes}
use Rattle.aas_outside_disk.specs.Files.{Files, SameOthers, file, files_of}
use Rattle.aas_outside_disk.specs.FileState.{Step, wrote, synced, FileState, settled, after_step, IsLeft}
use Rattle.aas_outside_disk.specs.MemDisk.{MemDiskState, AreLeft, after_steps, clock, disk_left_at, now, seen_files}
use Rattle.aas_outside_disk.specs.MemDiskLaw.{file-files_of, now_left, seen_left}
use Rattle.aas_outside_disk.proofs.Images.{sync_adds, sync_holds, write_tears}
use Rattle.aas_outside_disk.proofs.Written.{writes_at}

agrees : (disk : MemDiskState) (part : Part) → IsLeft (now disk part) (now disk part).seen
agrees disk part = seen_left disk.base disk.steps part

-- what may be left now
left_now : (disk : MemDiskState) (files : Files) → disk_left_at disk (clock disk) files → AreLeft (now disk) files
left_now disk files left =
    subst (λ (steps : List Step). AreLeft (after_steps disk.base steps) files)
    (take_all (length disk.steps) disk.steps (omega arith)) left.1

module _ (old new : MemDiskState) (made : List Step)
    (base : new.base ≡ old.base) (steps : new.steps ≡ old.steps ++ made) where
  pub clock_is : clock new ≡ clock old + length made
  clock_is = ap length steps ∙ length-append old.steps made

  earlier : (t : ℕ) → t ≤ clock old → take t new.steps ≡ take t old.steps
  earlier t le = ap (λ (l : List Step). take t l) steps ∙ take-append-le t old.steps made le

  -- what was left at a moment that is over stays
  left_before : (t : ℕ) → t ≤ clock old → (files : Files) → disk_left_at new t files → disk_left_at old t files
  left_before t le files left = (
    le,
    subst (λ (states : Part → FileState). AreLeft states files) (λ i. after_steps (base i) (earlier t le i)) left.1,
  )

  pub now_is : (part : Part) → now new part ≡ fold (after_step part) (now old part) made
  now_is part =
      (λ i. after_steps (base i) (steps i) part)
      ∙ fold-append (after_step part) (settled (file part old.base)) old.steps made

  -- at the moment at which the call began
  at_start : (t : ℕ) → clock old ≤ t → t ≤ clock old → (files : Files)
      → disk_left_at new t files → disk_left_at old (clock old) files
  at_start t since until files left =
      left_before (clock old) (omega arith) files
      (subst (λ (n : ℕ). disk_left_at new n files) (omega (arith, since, until)) left)

  -- at the moment at which it ended
  at_end : (t : ℕ) → clock new ≤ t → t ≤ clock new → (files : Files) → disk_left_at new t files
      → AreLeft (λ part. fold (after_step part) (now old part) made) files
  at_end t since until files left part =
      subst (λ (s : FileState). IsLeft s (file part files)) (now_is part)
      (left_now new files (subst (λ (n : ℕ). disk_left_at new n files) (omega (arith, since, until)) left) part)

  pub seen_is : seen_files new ≡ files_of (λ part. (fold (after_step part) (now old part) made).seen)
  seen_is = λ i. files_of (λ part. (now_is part i).seen)

-- a call that makes nothing
module _ (old new : MemDiskState) (base : new.base ≡ old.base) (steps : new.steps ≡ old.steps ++ []) where
  none_left : (t : ℕ) → clock old ≤ t → t ≤ clock new → (files : Files)
      → disk_left_at new t files → disk_left_at old (clock old) files
  none_left t since until files left =
      at_start old new [] base steps t since (omega (arith, until, clock_is old new [] base steps)) files left

-- a call that makes one step
module _ (old new : MemDiskState) (step : Step) (base : new.base ≡ old.base)
    (steps : new.steps ≡ old.steps ++ step ∷ []) where
  abbrev after : Part → FileState
  after part = after_step part (now old part) step

  -- at each of its moments a stop leaves what one before it may have left, or one after the step
  one_left : (t : ℕ) → clock old ≤ t → t ≤ clock new
      → AddsNone (disk_left_at old (clock old)) (disk_left_at new t) ⊎ AddsNone (AreLeft after) (disk_left_at new t)
  one_left t since until = ⊎_elim
      (λ low. inl (at_start old new (step ∷ []) base steps t since (omega (arith, low))))
      (λ high. inr (at_end old new (step ∷ []) base steps t
      (omega (arith, high, clock_is old new (step ∷ []) base steps)) until))
      (cases_lt t (clock old + 1))

module _ (old new : MemDiskState) (part : Part) (base : new.base ≡ old.base) where
  pub sync_images : (b : Bool) → new.steps ≡ old.steps ++ (if b then synced part ∷ [] else [])
      → Meanwhile (clock old) (clock new) (disk_left_at old) (disk_left_at new) AddsNone
  sync_images false steps = none_left old new base steps
  sync_images true steps = λ t since until files left. ⊎_elim
      (λ same. same files left)
      (λ after. now_left old files (sync_adds (now old) (agrees old) part files (after files left)))
      (one_left old new (synced part) base steps t since until)

  pub sync_durable : {T E : Type 0} (result : Result T E)
      → new.steps ≡ old.steps ++ (if is_ok result then synced part ∷ [] else [])
      → OnOk result (HoldsWhatIsRead part (Some (seen_files old)) (disk_left_at new (clock new)))
  sync_durable (Err e) steps = tt
  sync_durable (Ok x) steps = λ files left.
      sync_holds (now old) (agrees old) part files
      (at_end old new (synced part ∷ []) base steps (clock new) (omega arith) (omega arith) files left)
      ∙ sym (file-files_of part (λ p. (now old p).seen))

same_others : (part : Part) (files : Files) → SameOthers part files files
same_others Main files = (refl, refl)
same_others Spare files = (refl, refl)
same_others Selector files = (refl, refl)

-- what isn't torn
untorn : (part : Part) (at n : ℕ) (old new : Files → Type 0) → AddsNone old new → Tears part at n old new
untorn part at n old new less end each files left = (
  files,
  less files left,
  same_others part files,
  record { before = refl; after = refl; no_shorter = each files (less files left) },
)

-- the same, said of equal sets
torn_as : (part : Part) (at n : ℕ) (old wider new less : Files → Type 0)
    → AddsNone wider old → AddsNone old wider → AddsNone new less → Tears part at n old new → Tears part at n wider less
torn_as part at n old wider new less to from fewer tears end each files left =
    let d = tears end (λ c is. each c (to c is)) files (fewer files left) in (d.0, to d.0 d.1, d.2, d.3)

on_ok : {T E : Type 0} (result : Result T E) (P : Type 0) → P → OnOk result P
on_ok (Ok x) P p = p
on_ok (Err e) P p = tt

on_ok_never : {T E : Type 0} (result : Result T E) (P : Type 0) → OnOk result (IsTrue false) → OnOk result P
on_ok_never (Ok x) P never = absurd (true≢false (sym never))
on_ok_never (Err e) P never = tt

module _ (old new : MemDiskState) (part : Part) (at : ℕ) (bytes : List ℕ) (base : new.base ≡ old.base) where
  pub write_images : (b : Bool) → new.steps ≡ old.steps ++ (if b then wrote part at bytes ∷ [] else [])
      → Meanwhile (clock old) (clock new) (disk_left_at old) (disk_left_at new) (Tears part at (length bytes))
  write_images false steps = λ t since until.
      untorn part at (length bytes) (disk_left_at old (clock old))
      (disk_left_at new t) (none_left old new base steps t since until)
  write_images true steps = λ t since until. ⊎_elim
      (λ same. untorn part at (length bytes) (disk_left_at old (clock old)) (disk_left_at new t) same)
      (λ after. torn_as part at (length bytes) (AreLeft (now old)) (disk_left_at old (clock old))
      (AreLeft (λ p. after_step p (now old p) (wrote part at bytes))) (disk_left_at new t)
      (now_left old) (left_now old) after (write_tears (now old) (agrees old) part at bytes))
      (one_left old new (wrote part at bytes) base steps t since until)

  made : {E : Type 0} (result : Result (Unit {0}) E) (p : Part) → at ≤ length (file p (seen_files old))
      → Writes p at bytes (Some (seen_files old))
      (Some (files_of (λ q. (after_step q (now old q) (wrote p at bytes)).seen))) result
  made result Main within = ((refl, refl), writes_at at bytes (now old Main).seen within, on_ok result _ refl)
  made result Spare within = ((refl, refl), writes_at at bytes (now old Spare).seen within, on_ok result _ refl)
  made result Selector within = ((refl, refl), writes_at at bytes (now old Selector).seen within, on_ok result _ refl)

  -- a write that isn't made fails
  pub write_seen : {E : Type 0} (result : Result (Unit {0}) E) (b : Bool) → OnOk result (IsTrue b)
      → new.steps ≡ old.steps ++ (if b then wrote part at bytes ∷ [] else [])
      → at ≤ length (file part (seen_files old))
      → Writes part at bytes (Some (seen_files old)) (Some (seen_files new)) result
  write_seen result false never steps within =
      subst (λ (f : Files). Writes part at bytes (Some (seen_files old)) (Some f) result)
      (sym (seen_is old new [] base steps)) (
        same_others part (seen_files old),
        record { before = refl; after = refl; no_shorter = omega arith; no_longer = omega arith },
        on_ok_never result _ never,
      )
  write_seen result true ok steps within =
      subst (λ (f : Files). Writes part at bytes (Some (seen_files old)) (Some f) result)
      (sym (seen_is old new (wrote part at bytes ∷ []) base steps))
      (made result part within)
