-- What the definitions of a `keep` and of a checkpoint say of a few files, in bytes.
use Rattle.std.specs.Prelude.{◌≡◌, [], ◌∷◌, ◌++◌, codes, length, refl}
use Rattle.aas_outside_disk.specs.Disk.{written}
use Rattle.aas_outside_disk.specs.Files.{Files}
use Rattle.aas_journal.specs.Bank.{chosen_file}
use Rattle.aas_journal.specs.Checkpoint.{checkpointed, one_record, turned}
use Rattle.aas_journal.specs.Image.{gate_of}
use Rattle.aas_journal.specs.Keep.{record_and_gate}
use Rattle.aas_journal.specs.Reads.{initial_files}

-- a payload of two bytes behind none
pub is_written_over_the_gate : written (gate_of [] 0) (record_and_gate (codes "ab")) initial_files.main
    ≡ codes "AASJ0002" ++ 1 ∷ 0 ∷ 0 ∷ 0 ∷ 2 ∷ 97 ∷ 98 ∷ 0 ∷ []
is_written_over_the_gate = refl

-- a payload of two bytes in the place of none
abbrev pub one_checkpoint : Files
one_checkpoint = checkpointed (codes "ab") initial_files

pub goes_to_the_spare : one_checkpoint
    ≡ record {
      main = codes "AASJ0002" ++ 0 ∷ [];
      spare = codes "AASJ0002" ++ 1 ∷ 0 ∷ 0 ∷ 0 ∷ 2 ∷ 97 ∷ 98 ∷ 0 ∷ [];
      selector = 1 ∷ [];
    }
goes_to_the_spare = refl

-- The next one goes to the main file again. What it doesn't reach stays behind the closed gate.
pub goes_back_to_the_main : checkpointed [] one_checkpoint
    ≡ record { main = codes "AASJ0002" ++ 1 ∷ 0 ∷ 0 ∷ 0 ∷ 0 ∷ 0 ∷ []; spare = one_checkpoint.spare; selector = 2 ∷ [] }
goes_back_to_the_main = refl

pub leaves_what_is_behind : (checkpointed [] (record one_checkpoint { selector = 2 ∷ [] })).spare
    ≡ codes "AASJ0002" ++ 1 ∷ 0 ∷ 0 ∷ 0 ∷ 0 ∷ 0 ∷ 98 ∷ 0 ∷ []
leaves_what_is_behind = refl

-- A journal of a payload of 7 bytes has 21.
pub has_fourteen_more : length (one_record (codes "1234567")) ≡ 21
has_fourteen_more = refl

-- behind 255 comes 0, and what stands behind the first byte of the selector stays
pub turns_over : turned (255 ∷ 7 ∷ []) ≡ 0 ∷ 7 ∷ []
turns_over = refl

-- the older header stands in the chosen file until the first checkpoint, and then in the other one
pub leaves_the_older_form : chosen_file (checkpointed (codes "a") (record initial_files {
  main = codes "AASJ0001" ++ 0 ∷ [];
}))
    ≡ codes "AASJ0002" ++ 1 ∷ 0 ∷ 0 ∷ 0 ∷ 1 ∷ 97 ∷ 0 ∷ []
leaves_the_older_form = refl
