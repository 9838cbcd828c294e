-- What three files stand for: the records of the one that the selector chooses. This profile's own rule.
use Rattle.std.specs.Prelude.{ℕ, ◌%◌, ◌==◌, if◌then◌else◌, List, [], ◌∷◌}
use Rattle.aas_outside_disk.specs.Files.{Files, file}
use Rattle.aas_outside_disk.specs.declared.part.Part.{Part}
use Rattle.aas_outside_disk.specs.declared.part.Part.TheVariants.{Main, Spare}
use Rattle.aas_journal.specs.Image.{IsImage}

-- An empty selector, and one whose first byte is even, chooses the main file, else the spare.
abbrev pub chosen : List ℕ → Part
chosen [] = Main
chosen (byte ∷ rest) = if byte % 2 == 0 then Main else Spare

abbrev pub chosen_file : Files → List ℕ
chosen_file files = file (chosen files.selector) files

abbrev pub IsBankImage : Files → List (List ℕ) → Type 0
IsBankImage files payloads = IsImage (chosen_file files) payloads
