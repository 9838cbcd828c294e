-- Laws of environments.
use Rattle.std.specs.Prelude.{◌≡◌, ◌⊎◌, ◌↔◌, ℕ, Bool, true, if◌then◌else◌, Ok, Err}
use Rattle.std.specs.Prelude as prelude
use Rattle.std.specs.Str.{IsUtf8}
use Rattle.aas_command.specs.declared.command.Command.TheVariants.{Import}
use Rattle.aas_command.specs.declared.refusal.Refusal.TheVariants.{StorageFull}
use Rattle.aas_json_mapping.specs.Trees.{environments}
use Rattle.aas_json_spelling.specs.Reads.{ReadsBytes}
use Rattle.aas_json_table.specs.TooDeep.{limits}
use Rattle.aas_model.specs.declared.documents.Environment.{Environment}
use Rattle.aas_model.specs.declared.read_fault.ReadFault.{ReadFault}
use Rattle.aas_model.specs.declared.read_fault.ReadFault.TheVariants.{NoMemory}
use Rattle.aas_repo.specs.Decisions.{has_room_for}
use Rattle.aas_step.specs.Step.{ComesTo, Result, accepted, refused}
use Rattle.aas_step.specs.Valid.{AreValid}
use Rattle.aas_store.specs.Documents.{Documents, empty}
use Rattle.aas_environment.specs.Environments.{environment_of, export_text}
use Rattle.aas_environment.specs.Imports.{Comes}

-- Where there are no documents and there is room, importing the environment of valid documents gives these documents.
abbrev pub ExportsComeBack : Type 0
ExportsComeBack = (d : Documents) → AreValid d → ComesTo true empty (Import (environment_of d)) (accepted d)

-- the documents, where there is room to keep the command by which they are put in
abbrev pub put_in : Bool → Documents → Result
put_in has_room d = if has_room then accepted d else refused StorageFull

-- The bytes of an export are read as the environment of its documents, unless memory is refused. Where there are no
-- documents, importing these bytes comes to the documents that were exported, or to a refusal for want of room, and to
-- nothing else.
pub record ComesBack (d : Documents) : Type 0 where
  pub read : (answer : prelude.Result Environment ReadFault) → ReadsBytes environments limits answer (export_text d)
      → (answer ≡ Ok (environment_of d)) ⊎ (answer ≡ Err NoMemory)
  pub comes : (has_room : ℕ → Bool) (result : Result)
      → Comes has_room empty (export_text d) result
      ↔ (result ≡ put_in (has_room_for has_room (Import (environment_of d))) d)

-- An export of valid documents, which is UTF-8, reads back.
abbrev pub ExportReadsBack : Type 0
ExportReadsBack = (d : Documents) → AreValid d → IsUtf8 (export_text d) → ComesBack d

-- Importing an environment twice gives what importing it once gives.
abbrev pub TwiceIsOnce : Type 0
TwiceIsOnce = (d once : Documents) (e : Environment)
    → ComesTo true d (Import e) (accepted once) → ComesTo true once (Import e) (accepted once)
