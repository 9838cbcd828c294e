-- What a checkpoint does to three files, and what a stop leaves of it. This profile's own rule.
use Rattle.std.specs.Prelude.{◌≡◌, ◌⊎◌, ℕ, ◌+◌, ◌≤◌, ◌%◌, List, ◌∷◌, ◌++◌, [], Option, Some, Result, OnOk, IfSome}
use Rattle.std.specs.Prelude.{codes, drop, length, slice_index}
use Rattle.aas_outside.specs.Frame.{frame_bytes}
use Rattle.aas_outside.specs.Keeper.{IsSettledKeeper, KeeperState}
use Rattle.aas_outside_disk.specs.Disk.{Becomes, DiskState, written}
use Rattle.aas_outside_disk.specs.Files.{Files, SameOthers, file}
use Rattle.aas_outside_disk.specs.declared.part.Part.{Part}
use Rattle.aas_outside_disk.specs.declared.part.Part.TheVariants.{Main, Spare, Selector}
use Rattle.aas_journal.specs.Bank.{IsBankImage, chosen, chosen_file}

-- the file of records that isn't this one
abbrev pub other : Part → Part
other Main = Spare
other Spare = Main
other Selector = Main

-- The selector's first byte, or 0 where it is empty, is one more, modulo 256.
abbrev pub turned : List ℕ → List ℕ
turned selector = (slice_index selector 0 + 1) % 256 ∷ drop 1 selector

-- the newer header and the record of one payload behind it, with the closed gate
abbrev pub one_record : List ℕ → List ℕ
one_record payload = codes "AASJ0002" ++ 1 ∷ frame_bytes payload

-- these bytes in one of the files
abbrev pub with_file : Part → List ℕ → Files → Files
with_file Main bytes files = record files { main = bytes }
with_file Spare bytes files = record files { spare = bytes }
with_file Selector bytes files = record files { selector = bytes }

-- The file that wasn't chosen has the payload as its one record,
-- over what stood there, and is chosen. The other one is as before.
abbrev pub checkpointed : List ℕ → Files → Files
checkpointed payload files =
    let part = other (chosen files.selector) in
    record (with_file part (written 0 (one_record payload) (file part files)) files) {
      selector = turned files.selector;
    }

-- At each moment from one to another a stop leaves an image of one of these two lists of payloads.
abbrev pub EitherDuring : {I : Type 0}
    → (I → List (List ℕ) → Type 0) → (ℕ → I → Type 0) → ℕ → ℕ → (a b : List (List ℕ)) → Type 0
EitherDuring {I} stands_for left_at from to a b =
    (t : ℕ) → from ≤ t → t ≤ to → (image : I) → left_at t image → stands_for image a ⊎ stands_for image b

-- the same from one state of a keeper to another
abbrev pub EitherMeanwhile : {I : Type 0}
    → (I → List (List ℕ) → Type 0) → (old new : KeeperState I) → (a b : List (List ℕ)) → Type 0
EitherMeanwhile stands_for old new a b = EitherDuring stands_for new.left_at old.moment new.moment a b

-- What a checkpoint by this payload does. At Ok it alone is kept, and whatever a stop leaves from then on is its image.
-- The file that was chosen before stays, whatever is answered.
pub record PutsInPlace {E : Type 0} (payload : List ℕ) (new : KeeperState Files) (disk_old disk_new : DiskState)
    (result : Result (Unit {0}) E) : Type 0 where
  pub settled : OnOk result (IsSettledKeeper IsBankImage new (payload ∷ []))
  pub bytes : OnOk result (IfSome disk_old.seen (λ files. disk_new.seen ≡ Some (checkpointed payload files)))
  pub stays : Becomes disk_old.seen disk_new.seen (λ old new. file (chosen old.selector) new ≡ chosen_file old)

-- What reads give of this file is changed so at Ok, and no shorter than before at Err. The other two stay.
abbrev pub Rewrites : {E : Type 0}
    → Part → (List ℕ → List ℕ) → Option Files → Option Files → Result (Unit {0}) E → Type 0
Rewrites part change old new result = Becomes old new (λ a b.
    SameOthers part a b × (length (file part a) ≤ length (file part b))
    × OnOk result (file part b ≡ change (file part a)))

-- each image is an old one but for this file
abbrev pub ChangesOnly : Part → (Files → Type 0) → (Files → Type 0) → Type 0
ChangesOnly part old new = (c : Files) → new c → (d : Files) × old d × SameOthers part d c
