-- Steps whose bytes stand one after another.
use Rattle.std.proofs.Common.{Vec, ◌≡◌, ◌≤◌, ℕ, suc, ◌+◌, List, [], ◌∷◌, ◌++◌, length, take, drop, refl, ◌∙◌, ap, ap₂}
use Rattle.std.proofs.Common.{subst, arith, length-drop}
use Rattle.std.specs.Prelude.{sum_by}
use Rattle.std.specs.declared.alloc.Global.{Global}
use Rattle.std.proofs.lemmas.List.Sums.{sum_by-append}
use Rattle.std.proofs.lemmas.List.{take-append-le, drop-append-le, length-take-le}
use Rattle.aas_outside_disk.specs.declared.memory_record.Entry.{Entry}
use Rattle.aas_outside_disk.specs.declared.memory_record.Entry.TheVariants.{Wrote, Synced}
use Rattle.aas_outside_disk.specs.declared.part.Part.{Part}
use Rattle.aas_outside_disk.specs.FileState.{Step, wrote, synced}
use Rattle.aas_outside_disk.specs.declared.memory_record.MemRecord.TheInside.{Inside}
use Rattle.aas_outside_disk.specs.MemRecord.{MemRecordState, bytes_of_step, bytes_of_steps}
use Rattle.aas_outside_disk.specs.MemRecordInside.{IsSound, entry_size, record_view, steps_of}

-- the size of an entry is counted first
sum_by-cons : {X : Type 0} (f : X → ℕ) (x : X) (xs : List X) → sum_by f (x ∷ xs) ≡ f x + sum_by f xs
sum_by-cons f x xs =
    let all : sum_by f (x ∷ xs) ≡ 0 + f x + sum_by f xs = sum_by-append f (x ∷ []) xs in
    omega (arith, all)

pub sum_by-push : {X : Type 0} (f : X → ℕ) (xs : List X) (x : X) → sum_by f (xs ++ x ∷ []) ≡ sum_by f xs + f x
sum_by-push f xs x =
    let all : sum_by f (xs ++ x ∷ []) ≡ sum_by f xs + (0 + f x) = sum_by-append f xs (x ∷ []) in
    omega (arith, all)

pub length-steps_of : (entries : List Entry) (bytes : List ℕ) → length (steps_of entries bytes) ≡ length entries
length-steps_of [] bytes = refl
length-steps_of (Wrote part at size ∷ entries) bytes = ap suc (length-steps_of entries (drop size bytes))
length-steps_of (Synced part ∷ entries) bytes = ap suc (length-steps_of entries bytes)

-- the first write's bytes are there
first_fits : (part : Part) (at size : ℕ) (entries : List Entry) (bytes : List ℕ)
    → sum_by entry_size (Wrote part at size ∷ entries) ≡ length bytes
    → size ≤ length bytes
first_fits part at size entries bytes whole = omega (arith, whole, sum_by-cons entry_size (Wrote part at size) entries)

-- and behind them those of the others
rest_whole : (part : Part) (at size : ℕ) (entries : List Entry) (bytes : List ℕ)
    → sum_by entry_size (Wrote part at size ∷ entries) ≡ length bytes
    → sum_by entry_size entries ≡ length (drop size bytes)
rest_whole part at size entries bytes whole =
    omega (arith, whole, sum_by-cons entry_size (Wrote part at size) entries, length-drop size bytes)

rest_synced : (part : Part) (entries : List Entry) (bytes : List ℕ)
    → sum_by entry_size (Synced part ∷ entries) ≡ length bytes
    → sum_by entry_size entries ≡ length bytes
rest_synced part entries bytes whole = omega (arith, whole, sum_by-cons entry_size (Synced part) entries)

pub bytes_of_steps-steps_of : (entries : List Entry) (bytes : List ℕ) → sum_by entry_size entries ≡ length bytes
    → bytes_of_steps (steps_of entries bytes) ≡ length bytes
bytes_of_steps-steps_of [] bytes whole = whole
bytes_of_steps-steps_of (Wrote part at size ∷ entries) bytes whole =
    let rest = steps_of entries (drop size bytes) in
    let here = first_fits part at size entries bytes whole in
    let whole_rest = rest_whole part at size entries bytes whole in
    omega (
      arith,
      sum_by-cons bytes_of_step (wrote part at (take size bytes)) rest,
      length-take-le size bytes here,
      bytes_of_steps-steps_of entries (drop size bytes) whole_rest,
      length-drop size bytes,
      here,
    )
bytes_of_steps-steps_of (Synced part ∷ entries) bytes whole =
    omega (
      arith,
      sum_by-cons bytes_of_step (synced part) (steps_of entries bytes),
      bytes_of_steps-steps_of entries bytes (rest_synced part entries bytes whole),
    )

-- a step more, with its bytes behind the others
pub steps_of-push : (entries : List Entry) (entry : Entry) (bytes more : List ℕ)
    → sum_by entry_size entries ≡ length bytes
    → steps_of (entries ++ entry ∷ []) (bytes ++ more) ≡ steps_of entries bytes ++ steps_of (entry ∷ []) more
steps_of-push [] entry [] more whole = refl
steps_of-push [] entry (byte ∷ bytes) more whole = absurd (omega (arith, whole))
steps_of-push (Wrote part at size ∷ entries) entry bytes more whole =
    let here = first_fits part at size entries bytes whole in
    ap₂
    (λ (b : List ℕ) (s : List Step). wrote part at b ∷ s)
    (take-append-le size bytes more here)
    (ap (steps_of (entries ++ entry ∷ [])) (drop-append-le size bytes more here)
    ∙ steps_of-push entries entry (drop size bytes) more (rest_whole part at size entries bytes whole))
steps_of-push (Synced part ∷ entries) entry bytes more whole =
    ap (λ (s : List Step). synced part ∷ s)
    (steps_of-push entries entry bytes more (rest_synced part entries bytes whole))

-- what the view says of the fields
pub record Sizes (a : Inside) (state : MemRecordState) : Type 0 where
  pub steps : length state.steps ≡ length a.entries.items
  pub bytes : bytes_of_steps state.steps ≡ length a.bytes.items
  pub capacity : state.capacity ≡ a.capacity

pub sizes : (a : Inside) (state : MemRecordState) → record_view a ≡ state → IsSound a → Sizes a state
sizes a state is sound = subst (Sizes a) is (record {
  steps = length-steps_of a.entries.items a.bytes.items;
  bytes = bytes_of_steps-steps_of a.entries.items a.bytes.items sound.whole;
  capacity = refl;
})

-- a step more, with its bytes behind the others
module _ (a : Inside) (sound : IsSound a) (entry : Entry) (more : List ℕ)
    (steps : List Step) (is : steps_of (entry ∷ []) more ≡ steps) where
  pub view-push : (entries : Vec Entry Global) (bytes : Vec ℕ Global) (state : MemRecordState) → record_view a ≡ state
      → entries.items ≡ a.entries.items ++ entry ∷ []
      → bytes.items ≡ a.bytes.items ++ more
      → record_view (record a { entries = entries; bytes = bytes }) ≡ record state { steps = state.steps ++ steps }
  view-push entries bytes state view pushed appended =
      let all : steps_of entries.items bytes.items ≡ steps_of a.entries.items a.bytes.items ++ steps =
      ap₂ (λ (e : List Entry) (b : List ℕ). steps_of e b) pushed appended
      ∙ steps_of-push a.entries.items entry a.bytes.items more sound.whole
      ∙ ap (λ (s : List Step). steps_of a.entries.items a.bytes.items ++ s) is in
      ap (λ (s : List Step). record (record_view a) { steps = s }) all
      ∙ ap (λ (r : MemRecordState). record r { steps = r.steps ++ steps }) view
