-- What `import` and `demo` do: the documents of one environment are put in as one command, or none is.
-- This profile's own rule.
use Rattle.std.specs.Prelude.{◌≡◌, ◌⊎◌, ℕ, ◌+◌, ◌<◌, ◌≤◌, List, [], ◌++◌, codes, decimal, length, Option, Some, IfSome}
use Rattle.std.specs.Prelude.{Result, Ok, Err}
use Rattle.std.specs.Str.{encode_utf8_all}
use Rattle.aas_outside.specs.Link.{LinkState}
use Rattle.aas_outside_disk.specs.Disk.{DiskState, OnlyReads}
use Rattle.aas_command.specs.Refusals.{code_of, refusal_of_fault, refusal_of_read, text_of}
use Rattle.aas_command.specs.declared.refusal.Refusal.{Refusal}
use Rattle.aas_command.specs.declared.refusal.Refusal.TheVariants.{Conflict, TooMany}
use Rattle.aas_demo.specs.Demo.{environment_of, sum_of}
use Rattle.aas_environment.specs.Imports.{Imports}
use Rattle.aas_environment.specs.declared.import_fault.ImportFault.{ImportFault}
use Rattle.aas_environment.specs.declared.import_fault.ImportFault.TheVariants as fault
use Rattle.aas_journal.specs.Bank.{IsBankImage}
use Rattle.aas_journal.specs.Kept.{has_room_behind}
use Rattle.aas_json_mapping.specs.Trees.{environments}
use Rattle.aas_json_spelling.specs.Spells.{canonical_text}
use Rattle.aas_outside_disk.specs.Files.{Files}
use Rattle.aas_repo.specs.declared.repo.Counts.{Counts}
use Rattle.aas_rule.specs.Rule.{Repository}
use Rattle.aas_rule.specs.State.{Holds, State, WhereSettled}
use Rattle.aas_store.specs.Documents.{Documents}
use Rattle.aas_server.specs.Answer.{Answer, Says, disk_failed, done, journal_full, line, refused}
use Rattle.aas_server.specs.Checkpointing.{IsForgone}
use Rattle.aas_server.specs.Early.{EndsEarly}
use Rattle.aas_server.specs.Ends.{IsCaused}
use Rattle.aas_server.specs.OnDisk.{StandsFor, state_on}
use Rattle.aas_server.specs.Opening.{HasBegun, OpensAs}

-- ---- what is said

-- the most bytes that an input may have
abbrev pub import_limit : ℕ
import_limit = 268435456

-- a refusal for the document to which a pointer leads
abbrev pub refused_at : List ℕ → Refusal → Answer
refused_at pointer r = record {
  status = 7;
  text = line (codes "aasd: refused " ++ decimal (code_of r)
      ++ codes " " ++ encode_utf8_all pointer ++ codes " " ++ text_of r);
}

-- it is the answer to this fault; to want of memory there is none
abbrev pub IsFaultAnswer : ImportFault → Answer → Type 0
IsFaultAnswer (fault.Read why) answer = answer ≡ refused (refusal_of_read why)
IsFaultAnswer (fault.Twice pointer) answer = answer ≡ refused_at pointer Conflict
IsFaultAnswer (fault.Rule pointer why) answer = answer ≡ refused_at pointer (refusal_of_fault why)
IsFaultAnswer (fault.TooMany pointer) answer = answer ≡ refused_at pointer TooMany
IsFaultAnswer fault.Full answer = answer ≡ journal_full
IsFaultAnswer fault.Storage answer = answer ≡ disk_failed
IsFaultAnswer fault.NoMemory answer = ⊥

-- the same, where this is the text of a success
abbrev pub IsImportAnswer : (Counts → List ℕ) → Result Counts ImportFault → Answer → Type 0
IsImportAnswer text (Ok counts) answer = answer ≡ done (text counts)
IsImportAnswer text (Err why) answer = IsFaultAnswer why answer

abbrev pub counts_text : Counts → List ℕ
counts_text counts = line (codes "imported " ++ decimal counts.shells ++ codes " shells, " ++ decimal counts.submodels
    ++ codes " submodels, " ++ decimal counts.concepts ++ codes " concept descriptions")

-- what a demo of so many properties imports, and how it ends
abbrev pub demo_input : ℕ → List ℕ
demo_input count = canonical_text environments (environment_of count)

abbrev pub demo_text : ℕ → List ℕ
demo_text count = line (codes "elements " ++ decimal count) ++ line (codes "sum " ++ decimal (sum_of count))
    ++ line (codes "bytes " ++ decimal (length (demo_input count) + 1))

-- ---- what is done

-- The input was imported, and it was said what came of it.
-- Where for want of memory nothing is said, everything is as before.
pub record IsPutIn {I : Type 0} (text : Counts → List ℕ)
    (stands_for : I → List (List ℕ) → Type 0) (r : Repository Documents) (input : List ℕ)
    (from : ℕ) (now : State Documents I) (status : ℕ) (old new : LinkState) : Type 0 where
  pub outcome : Result Counts ImportFault
  pub imports : Imports has_room_behind stands_for r input from now outcome
  pub says : Says (IsImportAnswer text outcome) status old new
  pub silent : status ≡ 10 → Holds stands_for r.records [] r from now

-- The same of a journal's repository, where it is settled: of all that the console has, which isn't too long.
abbrev pub PutsInputIn : State Documents Files → State Documents Files → ℕ → LinkState → LinkState → Type 0
PutsInputIn before now status old new = IfSome old.left (λ input. length input ≤ import_limit)
    × ((input : List ℕ) → old.left ≡ Some input → WhereSettled IsBankImage before (λ r.
    IsPutIn counts_text IsBankImage r input before.moment now status old new))

-- the same of a demo of so many properties
abbrev pub PutsDemoIn : ℕ → State Documents Files → State Documents Files → ℕ → LinkState → LinkState → Type 0
PutsDemoIn count before now status old new = WhereSettled IsBankImage before (λ r.
    IsPutIn (λ counts. demo_text count) IsBankImage r (demo_input count) before.moment now status old new)

-- The same of a disk. From the start of the run on it is said for which payloads what a stop leaves stands, and as
-- which documents it opens.
abbrev pub PutsIn : (Counts → List ℕ) → List ℕ → Repository Documents
    → ℕ → LinkState → LinkState → DiskState → DiskState → Type 0
PutsIn text input r status old new disk_old disk_new = (d : Documents)
    × IsPutIn text (StandsFor disk_old r) r input disk_old.moment (state_on disk_new d) status old new

-- there is no room for an input of more bytes
abbrev pub IsTooLong : Option (List ℕ) → Answer → Type 0
IsTooLong left answer = (answer ≡ journal_full) × IfSome left (λ input. import_limit < length input)

-- The input is too long, or the console failed as it was read, or there was no memory for it. The disk only was read.
pub record IsNotTaken (status : ℕ) (old new : LinkState) (disk_old disk_new : DiskState) : Type 0 where
  pub has_begun : HasBegun disk_old
  pub says : Says (IsTooLong old.left) status old new
  pub unwritten : OnlyReads disk_old disk_new

-- the statuses of what is refused: for a document, for want of room, or for want of memory
abbrev pub IsRefusal : ℕ → Type 0
IsRefusal status = (status ≡ 7) ⊎ (status ≡ 9) ⊎ (status ≡ 10)

-- All that the console had was imported, or refused: then the disk only was read.
pub record IsInputImported (status : ℕ) (old new : LinkState) (disk_old disk_new : DiskState) : Type 0 where
  pub has_begun : HasBegun disk_old
  pub within : IfSome old.left (λ input. length input ≤ import_limit)
  pub put_in : (input : List ℕ) (r : Repository Documents) → old.left ≡ Some input → OpensAs disk_old r
      → PutsIn counts_text input r status old new disk_old disk_new
  pub refused : IsRefusal status → OnlyReads disk_old disk_new
  pub causes : IsCaused status old new disk_old disk_new

-- no repository was begun, or the input wasn't taken, or it was imported
abbrev pub ImportsInput : ℕ → LinkState → LinkState → DiskState → DiskState → Type 0
ImportsInput status old new disk_old disk_new =
    EndsEarly status old new disk_old disk_new
    ⊎ IsNotTaken status old new disk_old disk_new
    ⊎ IsInputImported status old new disk_old disk_new

-- The environment of so many properties was imported, or refused: then the disk only was read. The console wasn't read.
pub record IsDemoImported (count status : ℕ) (old new : LinkState) (disk_old disk_new : DiskState) : Type 0 where
  pub has_begun : HasBegun disk_old
  pub put_in : (r : Repository Documents) → OpensAs disk_old r
      → PutsIn (λ counts. demo_text count) (demo_input count) r status old new disk_old disk_new
  pub unread : new.left ≡ old.left
  pub refused : IsRefusal status → OnlyReads disk_old disk_new
  pub causes : IsCaused status old new disk_old disk_new

-- no repository was begun, or there was no memory, or the environment was imported
abbrev pub ImportsDemo : ℕ → ℕ → LinkState → LinkState → DiskState → DiskState → Type 0
ImportsDemo count status old new disk_old disk_new =
    EndsEarly status old new disk_old disk_new
    ⊎ IsForgone status old new disk_old disk_new
    ⊎ IsDemoImported count status old new disk_old disk_new
