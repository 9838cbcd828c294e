-- The contents of a disk's three files. This profile's own rule.
use Rattle.std.specs.Prelude.{◌≡◌, List, ℕ, Bool, true, false}
use Rattle.aas_outside_disk.specs.declared.part.Part.{Part}
use Rattle.aas_outside_disk.specs.declared.part.Part.TheVariants.{Main, Spare, Selector}

pub record Files : Type 0 where
  pub main : List ℕ
  pub spare : List ℕ
  pub selector : List ℕ

abbrev pub file : Part → Files → List ℕ
file Main files = files.main
file Spare files = files.spare
file Selector files = files.selector

-- the other two files are equal
abbrev pub SameOthers : Part → Files → Files → Type 0
SameOthers Main old new = (new.spare ≡ old.spare) × (new.selector ≡ old.selector)
SameOthers Spare old new = (new.main ≡ old.main) × (new.selector ≡ old.selector)
SameOthers Selector old new = (new.main ≡ old.main) × (new.spare ≡ old.spare)

-- three files, by what each holds
abbrev pub files_of : (Part → List ℕ) → Files
files_of bytes = record { main = bytes Main; spare = bytes Spare; selector = bytes Selector }

abbrev pub same_part : Part → Part → Bool
same_part Main Main = true
same_part Spare Spare = true
same_part Selector Selector = true
same_part part other = false
