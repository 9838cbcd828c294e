-- What is decided on a command on whole documents, and what becomes of
-- a command that is taken, before it is kept. This profile's own rule.
use Rattle.std.specs.Prelude.{◌≡◌, ◌≢◌, ◌^◌, ◌&&◌, ℕ, nat_lt, Bool, List, [], ◌∷◌, Some, None, Result, Ok, Err}
use Rattle.std.specs.Prelude.{IsTrue, length}
use Rattle.std.specs.Str.{encode_utf8_all}
use Rattle.aas_model_names.specs.declared.collection.Collection.{Collection}
use Rattle.aas_constraint_rules.specs.Faults.{shell}
use Rattle.aas_command.specs.Commands.{payload_of}
use Rattle.aas_command.specs.Encoding.{HasFields, IsFaultOf}
use Rattle.aas_command.specs.declared.command.Command.{Command}
use Rattle.aas_command.specs.declared.encoding.EncodeFault.{EncodeFault}
use Rattle.aas_command.specs.declared.refusal.Refusal.{Refusal}
use Rattle.aas_command.specs.declared.refusal.Refusal.TheVariants.{NoMemory, StorageFault}
use Rattle.aas_model.specs.declared.asset.AssetInformation.{AssetInformation}
use Rattle.aas_model.specs.declared.documents.Shell.{Shell}
use Rattle.aas_store.specs.Documents.{Documents, without}
use Rattle.aas_step.specs.Causes.{Cause, causes, first_of, in_shell, is_absent}
use Rattle.aas_step.specs.Made.{IsMade, changed_shell, left}
use Rattle.aas_step.specs.Step.{ComesTo, accepted, refused}
use Rattle.aas_repo.specs.declared.taking.Taken.{Taken}
use Rattle.aas_repo.specs.declared.taking.Taken.TheVariants as taken

-- a keeper that has room for so many bytes or not has room for the command;
-- for a payload that has no frame there is none
abbrev pub has_room_for : (has_room : ℕ → Bool) → Command → Bool
has_room_for has_room c = nat_lt (length (payload_of c)) (2 ^ 32) && has_room (length (payload_of c))

-- it is the frame of the command's payload, which can be read again, or why there is none
abbrev pub IsEncoded : Command → Result (List ℕ) EncodeFault → Type 0
IsEncoded c (Ok frame) = (frame ≡ payload_of c) × HasFields c
IsEncoded c (Err fault) = IsFaultOf (payload_of c) fault

-- with the documents before and after
abbrev pub IsTaken : (has_room : ℕ → Bool) → Documents → Command → Documents → Taken → Type 0
IsTaken has_room old c new (taken.Made frame) =
    (frame ≡ payload_of c) × IsTrue (has_room (length frame))
    × ComesTo (has_room_for has_room c) old c (accepted new) × HasFields c
IsTaken has_room old c new (taken.Refused refusal) =
    (new ≡ old) × (refusal ≢ StorageFault) × ComesTo (has_room_for has_room c) old c (refused refusal)
IsTaken has_room old c new taken.NoMemory = new ≡ old

-- It takes the document of an identifier away, where one is there.
pub record Deletes (d : Documents) (c : Command) (collection : Collection) (id : List ℕ) : Type 0 where
  pub causes_are : causes d c ≡ is_absent collection id d ∷ []
  pub made : IsMade d c []
  pub left_are : left d c ≡ without collection (encode_utf8_all id) d

abbrev pub with_asset : AssetInformation → Shell → Shell
with_asset asset s = record s { asset = asset }

-- The shell of an identifier, changed; or why it isn't, where memory isn't refused: the first cause in what is there.
abbrev pub IsChangedShell : Documents → List ℕ → (Shell → Cause) → (Shell → Shell) → Result Shell Refusal → Type 0
IsChangedShell d id cause_in change (Ok new) =
    (first_of (in_shell d id cause_in) ≡ None) × (changed_shell d id change ≡ shell new ∷ [])
IsChangedShell d id cause_in change (Err refusal) =
    refusal ≢ NoMemory → (refusal ≢ StorageFault) × (first_of (in_shell d id cause_in) ≡ Some refusal)
