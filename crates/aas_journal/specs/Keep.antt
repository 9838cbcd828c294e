-- What a `keep` does to what reads give of three files, and to what a stop leaves of them. This profile's own rule.
use Rattle.std.specs.Prelude.{ℕ, List, [], ◌∷◌, ◌++◌, length, Option, Result, IfSome}
use Rattle.aas_outside_disk.specs.Disk.{Tears, Writes}
use Rattle.aas_outside_disk.specs.Files.{Files}
use Rattle.aas_journal.specs.Bank.{chosen}
use Rattle.aas_journal.specs.Image.{gate_of, records}

-- the record of a payload, and a closed gate
abbrev pub record_and_gate : List ℕ → List ℕ
record_and_gate payload = records (payload ∷ []) ++ 0 ∷ []

-- In the chosen file, from the closed gate behind these payloads on, the record and a gate are written over what stood
-- there. At Err these places may hold any bytes. All else is as before.
abbrev pub WritesRecord : {E : Type 0}
    → List (List ℕ) → List ℕ → Option Files → Option Files → Result (Unit {0}) E → Type 0
WritesRecord payloads payload old new result = IfSome old (λ files.
    Writes (chosen files.selector) (gate_of payloads (length payloads)) (record_and_gate payload) old new result)

-- Each image is an old one, but for these places and what lies past the old end of that file.
abbrev pub TearsRecord : List (List ℕ) → List ℕ → Option Files → (Files → Type 0) → (Files → Type 0) → Type 0
TearsRecord payloads payload seen old new = IfSome seen (λ files.
    Tears (chosen files.selector) (gate_of payloads (length payloads)) (length (record_and_gate payload)) old new)
