-- What an initialised disk holds. This profile's own rule.
use Rattle.std.specs.Prelude.{[], ◌∷◌, ◌++◌, codes}
use Rattle.aas_outside_disk.specs.Files.{Files}

-- the header of the newer form and a closed gate in the main file, and two empty files
abbrev pub initial_files : Files
initial_files = record { main = codes "AASJ0002" ++ 0 ∷ []; spare = []; selector = [] }
