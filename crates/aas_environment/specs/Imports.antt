-- What is done with the bytes of a file that is imported. This profile's own rule.
use Rattle.std.specs.Prelude.{◌≡◌, ◌≢◌, ℕ, Bool, List, [], ◌∷◌, length, Some, None, Result, Ok, Err}
use Rattle.std.specs.Str.{encode_utf8_all}
use Rattle.aas_command.specs.Refusals.{refusal_of_fault, refusal_of_read}
use Rattle.aas_command.specs.declared.command.Command.TheVariants.{Import}
use Rattle.aas_command.specs.declared.refusal.Refusal.{Refusal}
use Rattle.aas_command.specs.declared.refusal.Refusal.TheVariants as refusal
use Rattle.aas_json_mapping.specs.Trees.{environments}
use Rattle.aas_json_spelling.specs.Reads.{ReadsBytes}
use Rattle.aas_json_table.specs.Pointer.{pointer_text}
use Rattle.aas_json_table.specs.Rows.{Pointer, in_item, in_member}
use Rattle.aas_json_table.specs.TooDeep.{limits}
use Rattle.aas_model.specs.declared.documents.Environment.{Environment}
use Rattle.aas_model.specs.declared.read_fault.ReadFault.TheVariants as read
use Rattle.aas_model_names.specs.declared.collection.Collection.{Collection}
use Rattle.aas_repo.specs.Acts.{IsAccepted, IsTorn}
use Rattle.aas_repo.specs.Decisions.{has_room_for}
use Rattle.aas_repo.specs.Faulty.{first_faulty_in}
use Rattle.aas_repo.specs.declared.repo.Counts.{Counts}
use Rattle.aas_rule.specs.Rule.{Repository, Room}
use Rattle.aas_rule.specs.State.{Holds, State}
use Rattle.aas_step.specs.Causes.{first_repeated_in}
use Rattle.aas_step.specs.Step as step
use Rattle.aas_step.specs.Step.{ComesTo, Steps, accepted, refused}
use Rattle.aas_store.specs.Documents.{Documents}
use Rattle.aas_environment.specs.Members.{name_of}
use Rattle.aas_environment.specs.declared.import_fault.ImportFault.{ImportFault}
use Rattle.aas_environment.specs.declared.import_fault.ImportFault.TheVariants.{Full, NoMemory, Read, Rule, Storage}
use Rattle.aas_environment.specs.declared.import_fault.ImportFault.TheVariants.{TooMany, Twice}

-- the bytes spell the environment
abbrev pub Spell : List ℕ → Environment → Type 0
Spell bytes e = ReadsBytes environments limits (Ok e) bytes

abbrev pub counts_of : Environment → Counts
counts_of e = record { shells = length e.shells; submodels = length e.submodels; concepts = length e.concepts }

-- ---- faults

-- the refusal that a fault stands for
abbrev pub refusal_of : ImportFault → Refusal
refusal_of (Read fault) = refusal_of_read fault
refusal_of (Twice pointer) = refusal.Conflict
refusal_of (Rule pointer fault) = refusal_of_fault fault
refusal_of (TooMany pointer) = refusal.TooMany
refusal_of Full = refusal.StorageFull
refusal_of Storage = refusal.StorageFault
refusal_of NoMemory = refusal.NoMemory

-- a document of an environment: its list, and its place there, counted from 0
abbrev pub Place : Type 0
Place = Collection × ℕ

abbrev pub pointer_to : Place → Pointer
pointer_to document = in_member (name_of document.0) ∷ in_item document.1 ∷ []

abbrev pub PointsTo : List ℕ → Place → Type 0
PointsTo pointer document = encode_utf8_all pointer ≡ pointer_text (pointer_to document)

-- the first document that isn't taken for itself, for this reason, is the one to which the text points
abbrev pub IsFaulty : Environment → List ℕ → Refusal → Type 0
IsFaulty e pointer why = (document : Place) × (first_faulty_in e ≡ Some (document, why)) × PointsTo pointer document

-- An identifier that is repeated comes before faulty documents, and these before the room.
abbrev pub Blames : Environment → ImportFault → Type 0
Blames e (Twice pointer) = (document : Place) × (first_repeated_in e ≡ Some document) × PointsTo pointer document
Blames e (Rule pointer fault) = (first_repeated_in e ≡ None) × IsFaulty e pointer (refusal_of_fault fault)
Blames e (TooMany pointer) = (first_repeated_in e ≡ None) × IsFaulty e pointer refusal.TooMany
Blames e Full = (first_repeated_in e ≡ None) × (first_faulty_in e ≡ None)
Blames e fault = ⊥

-- What it says of the bytes is so, whatever is known of the keeper.
abbrev pub IsFileFault : List ℕ → ImportFault → Type 0
IsFileFault bytes (Read fault) = (fault ≢ read.NoMemory) × ReadsBytes environments limits (Err fault) bytes
IsFileFault bytes Storage = Unit {0}
IsFileFault bytes NoMemory = Unit {0}
IsFileFault bytes fault = (e : Environment) → Spell bytes e → Blames e fault

-- ---- what is answered

-- the command of the environment is refused
pub record IsRefused (room : Room) (r : Repository Documents) (bytes : List ℕ) (fault : ImportFault) : Type 0 where
  pub environment : Environment
  pub spelled : Spell bytes environment
  pub steps : Steps room r (Import environment) (refused (refusal_of fault))
  pub blames : Blames environment fault

-- it is accepted and kept
pub record IsImported {I : Type 0} (room : Room) (stands_for : I → List (List ℕ) → Type 0)
    (r : Repository Documents) (bytes : List ℕ) (from : ℕ) (now : State Documents I) (counts : Counts) : Type 0 where
  pub environment : Environment
  pub spelled : Spell bytes environment
  pub counted : counts ≡ counts_of environment
  pub accepted : IsAccepted room stands_for r (Import environment) from now

-- it is accepted, but the keeper failed
pub record IsTornImport {I : Type 0} (room : Room) (stands_for : I → List (List ℕ) → Type 0)
    (r : Repository Documents) (bytes : List ℕ) (from : ℕ) (now : State Documents I) : Type 0 where
  pub environment : Environment
  pub spelled : Spell bytes environment
  pub torn : IsTorn room stands_for r (Import environment) from now

-- by what is answered: but for a fault of the keeper everything is as before
abbrev pub Imports : {I : Type 0} → Room → (I → List (List ℕ) → Type 0)
    → Repository Documents → List ℕ → ℕ → State Documents I → Result Counts ImportFault → Type 0
Imports room stands_for r bytes from now (Ok counts) = IsImported room stands_for r bytes from now counts
Imports room stands_for r bytes from now (Err (Read fault)) =
    (fault ≢ read.NoMemory) × ReadsBytes environments limits (Err fault) bytes
    × Holds stands_for r.records [] r from now
Imports room stands_for r bytes from now (Err Storage) = IsTornImport room stands_for r bytes from now
Imports room stands_for r bytes from now (Err NoMemory) = Holds stands_for r.records [] r from now
Imports room stands_for r bytes from now (Err fault) =
    IsRefused room r bytes fault × Holds stands_for r.records [] r from now

-- ---- whatever the keeper tells

-- The bytes spell an environment, and its command comes to this, where the keeper has room for so many bytes or not.
pub record Comes (has_room : ℕ → Bool) (old : Documents) (bytes : List ℕ) (result : step.Result) : Type 0 where
  pub environment : Environment
  pub spelled : Spell bytes environment
  pub comes : ComesTo (has_room_for has_room (Import environment)) old (Import environment) result

-- by what is answered
abbrev pub ComesOut : (ℕ → Bool) → Documents → List ℕ → Documents → Result Counts ImportFault → Type 0
ComesOut has_room old bytes new (Ok counts) = Comes has_room old bytes (accepted new)
ComesOut has_room old bytes new (Err Storage) = Comes has_room old bytes (accepted new)
ComesOut has_room old bytes new (Err NoMemory) = Unit {0}
ComesOut has_room old bytes new (Err (Read fault)) = Unit {0}
ComesOut has_room old bytes new (Err fault) = Comes has_room old bytes (refused (refusal_of fault))
