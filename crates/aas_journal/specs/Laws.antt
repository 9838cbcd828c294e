-- Laws of files of records.
use Rattle.std.specs.Prelude.{◌≡◌, ℕ, List}
use Rattle.aas_outside_disk.specs.Files.{Files}
use Rattle.aas_journal.specs.Bank.{IsBankImage, chosen_file}
use Rattle.aas_journal.specs.Causes.{IsDamaged, IsNotInitialised}

-- Three files are the image of one list of payloads at most.
abbrev pub HaveOneList : Type 0
HaveOneList = (files : Files) (a b : List (List ℕ)) → IsBankImage files a → IsBankImage files b → a ≡ b

-- Of these three one at most holds of three files, and the second at one place at most.
pub record HaveOneCondition : Type 0 where
  pub image_initialised : (files : Files) (payloads : List (List ℕ)) → IsBankImage files payloads
      → ¬ (IsNotInitialised (chosen_file files))
  pub image_undamaged : (files : Files) (payloads : List (List ℕ)) (at : ℕ) → IsBankImage files payloads
      → ¬ (IsDamaged (chosen_file files) at)
  pub damaged_initialised : (file : List ℕ) (at : ℕ) → IsDamaged file at → ¬ (IsNotInitialised file)
  pub damaged_once : (file : List ℕ) (a b : ℕ) → IsDamaged file a → IsDamaged file b → a ≡ b
