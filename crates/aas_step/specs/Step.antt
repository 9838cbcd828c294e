-- What a command comes to: the first of its causes, or the documents that it makes. This profile's own rule.
use Rattle.std.specs.Prelude.{◌≡◌, Bool, List, [], ◌∷◌, ◌++◌, length, flat_map, Some, None}
use Rattle.aas_constraint_rules.specs.Faults.{Document}
use Rattle.aas_command.specs.Commands.{payload_of}
use Rattle.aas_command.specs.declared.command.Command.{Command}
use Rattle.aas_command.specs.declared.refusal.Refusal.{Refusal}
use Rattle.aas_command.specs.declared.refusal.Refusal.TheVariants.{StorageFull}
use Rattle.aas_rule.specs.Rule.{Repository, Room}
use Rattle.aas_store.specs.Documents.{Documents}
use Rattle.aas_step.specs.Causes.{Cause, causes, document_causes, first_of, unless}
use Rattle.aas_step.specs.Made.{IsMade, left, with_documents}

pub data Result : Type 0 where
  refused : Refusal → Result
  accepted : Documents → Result

abbrev pub result_of : Cause → Documents → Result
result_of (Some refusal) d = refused refusal
result_of None d = accepted d

-- the faults of the new documents in their order, and then that there is no room to keep the command
abbrev pub later_causes : Bool → List Document → List Cause
later_causes has_room new = flat_map document_causes new ++ unless has_room StorageFull ∷ []

-- by the first cause in what is there
abbrev pub ComesBy : Cause → Bool → Documents → Command → Result → Type 0
ComesBy (Some refusal) has_room d c result = result ≡ refused refusal
ComesBy None has_room d c result =
    (new : List Document) × IsMade d c new
    × (result ≡ result_of (first_of (later_causes has_room new)) (with_documents (left d c) new))

-- In these documents, where there is room to keep the command or not. The causes are tried from the left; where none
-- applies, the documents are as the command makes them.
unfoldable pub ComesTo : Bool → Documents → Command → Result → Type 0
ComesTo has_room d c result = ComesBy (first_of (causes d c)) has_room d c result

-- in a repository
unfoldable pub Steps : Room → Repository Documents → Command → Result → Type 0
Steps room r c result = ComesTo (room r.records (length (payload_of c))) r.documents c result
