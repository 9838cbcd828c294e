-- What is read of one field. This profile's own rule.
use Rattle.std.specs.Prelude.{◌≡◌, ◌+◌, ℕ, List, length, ⊤}
use Rattle.std.specs.Str.{IsUtf8, encode_utf8_all}
use Rattle.aas_record.specs.Fields.{Begins, LacksField}
use Rattle.aas_record.specs.Records.{GoesWrong, IsMore}
use Rattle.aas_record.specs.declared.fault.RecordFault.{RecordFault}
use Rattle.aas_record.specs.declared.fault.RecordFault.TheVariants.{NotARecord, NoMemory}

-- the bytes begin with a field that holds a whole value, behind which there is the rest
pub record HasField {A : Type 0} (IsWhole : A → Type 0) (bytes_of : A → List ℕ) (HasType : List ℕ → Type 0)
    (bytes : List ℕ) (value : A) (rest : List ℕ) : Type 0 where
  pub begins : Begins bytes (bytes_of value) rest
  pub whole : IsWhole value
  pub type : HasType (bytes_of value)

-- they don't, and stand at this place
abbrev pub IsFieldFault : (List ℕ → Type 0) → ℕ → List ℕ → RecordFault → Type 0
IsFieldFault HasType place bytes (NotARecord at) = LacksField HasType bytes × (at ≡ place)
IsFieldFault HasType place bytes NoMemory = ⊤

-- they don't, or there are bytes behind it
abbrev pub IsLastFault : (List ℕ → Type 0) → ℕ → List ℕ → RecordFault → Type 0
IsLastFault HasType place bytes (NotARecord at) =
    GoesWrong HasType (λ content rest. IsMore (place + 4 + length content) rest at) place bytes at
IsLastFault HasType place bytes NoMemory = ⊤

-- the bytes begin with the fields of an identifier and of a whole value, behind which there is the rest
pub record HasTwo {A : Type 0} (IsWhole : A → Type 0) (bytes_of : A → List ℕ) (HasType : List ℕ → Type 0)
    (bytes id : List ℕ) (value : A) (rest : List ℕ) : Type 0 where
  pub between : List ℕ
  pub first : HasField (λ (_ : List ℕ). ⊤) encode_utf8_all IsUtf8 bytes id between
  pub second : HasField IsWhole bytes_of HasType between value rest

-- the bytes behind a tag don't begin so, with such a fault of what is behind the identifier,
-- and go wrong at this place of the payload
abbrev pub LacksTwo : (ℕ → List ℕ → RecordFault → Type 0) → List ℕ → ℕ → Type 0
LacksTwo IsFault bytes at =
    GoesWrong IsUtf8 (λ id rest. IsFault (1 + 4 + length id) rest (NotARecord at)) 1 bytes at
