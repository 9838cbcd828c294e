-- What is read can be sent where its numbers are whole.
use Rattle.std.proofs.Common.{◌≡◌, ◌≤◌, ℕ, Bool, true, false, List, Some, None}
use Rattle.std.specs.Prelude.{if◌then◌else◌}
use Rattle.std.specs.Str.{is_utf8}
use Rattle.serde_json.specs.Data.{Data, depth}
use Rattle.serde_json.specs.Read.{read, max_depth}
use Rattle.serde_json.proofs.Nesting.{depth-read}
use Rattle.aas_json_spelling.specs.Reading.{reading}
use Rattle.aas_json_spelling.specs.Values.{HasWholeNumbers}
use Rattle.aas_json_spelling.proofs.Reading.{reading_ordered}
use Rattle.aas_command.specs.Commands.{IsSendable}

-- within the depth of the reader
shallow : (bytes : List ℕ) (v : Data) → reading bytes ≡ Some v → depth v ≤ max_depth
shallow bytes v is = by_utf8 (is_utf8 bytes) is
  where
    by_utf8 : (b : Bool) → (if b then read bytes else None) ≡ Some v → depth v ≤ max_depth
    by_utf8 true e = depth-read bytes v e
    by_utf8 false e = absurd (cc)

pub read_sendable : (bytes : List ℕ) (v : Data) → reading bytes ≡ Some v → HasWholeNumbers v → IsSendable v
read_sendable bytes v is numbers =
    record { order = reading_ordered bytes v is; numbers = numbers; shallow = shallow bytes v is }
