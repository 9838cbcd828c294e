-- Which payload is that of a command, and where another one goes wrong. This profile's own rule.
use Rattle.std.specs.Prelude.{◌≡◌, ◌⊎◌, ◌+◌, ◌<◌, ℕ, List, [], ◌∷◌, ◌++◌, length, MatchOption, ⊤}
use Rattle.aas_command.specs.Commands.{IsWellFormed, payload_of}
use Rattle.aas_command.specs.Encoding.{HasFields}
use Rattle.aas_command.specs.declared.command.Command.{Command}
use Rattle.aas_record.specs.Fields.{Begins, LacksField}
use Rattle.aas_record.specs.FieldTypes.{FieldType, HasType, types_of}
use Rattle.aas_record.specs.declared.fault.RecordFault.{RecordFault}
use Rattle.aas_record.specs.declared.fault.RecordFault.TheVariants.{NotARecord, NoMemory}

-- the payload is that of a command
pub record IsRecord (payload : List ℕ) (c : Command) : Type 0 where
  pub well_formed : IsWellFormed c
  pub fields : HasFields c
  pub same : payload ≡ payload_of c

-- there are bytes too many, the first at this place
abbrev pub IsMore : ℕ → List ℕ → ℕ → Type 0
IsMore place bytes at = (0 < length bytes) × (at ≡ place)

-- The bytes, which stand at a place, go wrong in their first field,
-- which passes their end or isn't of its type, or else behind it.
abbrev pub GoesWrong : (List ℕ → Type 0) → (List ℕ → List ℕ → Type 0) → ℕ → List ℕ → ℕ → Type 0
GoesWrong HasType Later place bytes at =
    (LacksField HasType bytes × (at ≡ place))
    ⊎ ((content : List ℕ) × (rest : List ℕ) × Begins bytes content rest × HasType content × Later content rest)

-- The bytes, which stand at a place behind some fields, aren't fields of these types.
abbrev pub FailsAt : List FieldType → List (List ℕ) → ℕ → List ℕ → ℕ → Type 0
FailsAt [] before place bytes at = IsMore place bytes at
FailsAt (type ∷ types) before place bytes at =
    GoesWrong (HasType type before)
    (λ content rest. FailsAt types (before ++ content ∷ []) (place + 4 + length content) rest at) place bytes at

-- The payload is that of no command, and goes wrong at this place: at 0 where it is empty or no command has its tag,
-- else where its fields do. A field goes wrong where its length stands.
unfoldable pub IsNoRecord : List ℕ → ℕ → Type 0
IsNoRecord [] at = at ≡ 0
IsNoRecord (tag ∷ fields) at = MatchOption (types_of tag) (at ≡ 0) (λ types. FailsAt types [] 1 fields at)

abbrev pub IsRecordFault : List ℕ → RecordFault → Type 0
IsRecordFault payload (NotARecord at) = IsNoRecord payload at
IsRecordFault payload NoMemory = ⊤
