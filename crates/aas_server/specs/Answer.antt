-- What a command answers. This profile's own rule.
use Rattle.std.specs.Prelude.{◌≡◌, ◌≢◌, ◌⊎◌, ◌^◌, ℕ, List, [], ◌∷◌, ◌++◌, codes, decimal, length, nat_lt}
use Rattle.std.specs.Prelude.{Option, if◌then◌else◌}
use Rattle.std.specs.Io.KnownBytes.{append_known}
use Rattle.aas_command.specs.Refusals.{code_of, text_of}
use Rattle.aas_command.specs.declared.refusal.Refusal.{Refusal}
use Rattle.aas_outside.specs.Faults.{Rose}
use Rattle.aas_outside.specs.Link.{GivesFront, LinkState}

-- the status of the run, and all that the console gets
pub record Answer : Type 0 where
  pub status : ℕ
  pub text : List ℕ

-- a line with its line feed
abbrev pub line : List ℕ → List ℕ
line text = text ++ 10 ∷ []

-- what was asked for
abbrev pub done : List ℕ → Answer
done text = record { status = 0; text = text }

abbrev pub refused : Refusal → Answer
refused r = record { status = 7; text = line (codes "aasd: refused " ++ decimal (code_of r) ++ codes " " ++ text_of r) }

-- the words are no command
abbrev pub not_a_command : Answer
not_a_command = record { status = 2; text = line (codes "aasd: not a command") }

-- a call of the disk failed
abbrev pub disk_failed : Answer
disk_failed = record { status = 4; text = line (codes "aasd: disk fault") }

-- there is no journal
abbrev pub no_journal : Answer
no_journal = record { status = 5; text = line (codes "aasd: not initialised") }

-- the journal is damaged at this gate
abbrev pub damage : ℕ → Answer
damage at = record { status = 6; text = line (codes "aasd: damaged at " ++ decimal at) }

-- a journal is to be made where something is
abbrev pub already_there : Answer
already_there = record { status = 8; text = line (codes "aasd: already there") }

-- there is no room in the journal
abbrev pub journal_full : Answer
journal_full = record { status = 9; text = line (codes "aasd: journal full") }

-- what is exported has 2^64 bytes or more
abbrev pub too_long : Answer
too_long = record { status = 11; text = line (codes "aasd: text too long") }

-- a text, unless it is too long
abbrev pub exported : List ℕ → Answer
exported text = if nat_lt (length text) (2 ^ 64) then done text else too_long

-- the status and what was given are those of an answer with P
abbrev pub GivesAnswer : (Answer → Type 0) → ℕ → Option (List ℕ) → Option (List ℕ) → Type 0
GivesAnswer P status old new =
    (answer : Answer) × P answer × (status ≡ answer.status) × (new ≡ append_known old answer.text)

-- nothing was given, or a front of the text of an answer with P
abbrev pub GivesFrontOf : (Answer → Type 0) → Option (List ℕ) → Option (List ℕ) → Type 0
GivesFrontOf P old new = (new ≡ old) ⊎ ((answer : Answer) × P answer × GivesFront old new answer.text)

-- The console gets the text of an answer with P, whose status is the run's, or a front of it where the console fails,
-- or nothing for want of memory.
pub record Says (P : Answer → Type 0) (status : ℕ) (old new : LinkState) : Type 0 where
  pub given : status ≢ 3 → status ≢ 10 → GivesAnswer P status old.sent new.sent
  pub front : status ≡ 3 → GivesFrontOf P old.sent new.sent
  pub fault : status ≡ 3 → Rose old.faults new.faults
  pub memory : status ≡ 10 → new.sent ≡ old.sent
