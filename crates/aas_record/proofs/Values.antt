-- The compact text of a value that can be sent is read as that value, and so is the text of no other.
use Rattle.std.proofs.Common.{◌≡◌, ◌≢◌, ℕ, Bool, List, Some, None, sym, ◌∙◌, ap, subst}
use Rattle.std.specs.Prelude.{if◌then◌else◌}
use Rattle.std.specs.Str.{IsUtf8}
use Rattle.std.proofs.lemmas.Option.{same_Some}
use Rattle.std.proofs.lemmas.Str.{is_utf8-from_IsUtf8}
use Rattle.serde_json.specs.Data.{Data}
use Rattle.serde_json.specs.Read.{read}
use Rattle.serde_json.specs.Written.{compact_text}
use Rattle.aas_json_spelling.specs.Reading.{reading}
use Rattle.aas_json_spelling.specs.Values.{HasWholeNumbers}
use Rattle.aas_json_spelling.proofs.Back.{read_back}
use Rattle.aas_command.specs.Commands.{IsSendable}
use Rattle.aas_record.specs.FieldTypes.{IsCompact}

reads : (v : Data) → IsSendable v → IsUtf8 (compact_text v) → reading (compact_text v) ≡ Some v
reads v is utf8 =
    ap (λ (b : Bool). if b then read (compact_text v) else None) (is_utf8-from_IsUtf8 (compact_text v) utf8)
    ∙ read_back v is.order is.numbers is.shallow

pub same_value : (v w : Data)
    → IsSendable v → IsSendable w → IsUtf8 (compact_text v) → compact_text v ≡ compact_text w → v ≡ w
same_value v w is other utf8 same =
    same_Some v w (sym (reads v is utf8) ∙ ap reading same ∙ reads w other (subst IsUtf8 same utf8))

-- ---- what is read

form_read : (bytes : List ℕ) (type : IsCompact bytes) → reading bytes ≡ Some type.1.0
form_read bytes (utf8, (v, is, same)) = ap reading same ∙ reads v is (subst IsUtf8 same utf8)

-- what isn't read, or isn't written so, is the text of no value that can be sent
pub unread : (bytes : List ℕ) → reading bytes ≡ None → ¬ (IsCompact bytes)
unread bytes none type = let e : None ≡ Some type.1.0 = sym none ∙ form_read bytes type in cc

one_read : (bytes : List ℕ) (v : Data) → reading bytes ≡ Some v → (type : IsCompact bytes) → v ≡ type.1.0
one_read bytes v is type = same_Some v type.1.0 (sym is ∙ form_read bytes type)

pub not_whole : (bytes : List ℕ) (v : Data) → reading bytes ≡ Some v → ¬ (HasWholeNumbers v) → ¬ (IsCompact bytes)
not_whole bytes v is broken type = broken (subst HasWholeNumbers (sym (one_read bytes v is type)) type.1.1.numbers)

pub written_otherwise : (bytes text : List ℕ) (v : Data)
    → reading bytes ≡ Some v → text ≡ compact_text v → text ≢ bytes → ¬ (IsCompact bytes)
written_otherwise bytes text v is written other type =
    other (written ∙ ap compact_text (one_read bytes v is type) ∙ sym type.1.2)
