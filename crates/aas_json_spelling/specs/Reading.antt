-- The JSON value that bytes are read as: they are UTF-8 (RFC 8259, section 8.1) and one JSON text, at most 127 arrays and objects deep.
use Rattle.std.specs.Prelude.{ℕ, List, Option, None, if◌then◌else◌}
use Rattle.std.specs.Str.{is_utf8}
use Rattle.serde_json.specs.Data.{Data}
use Rattle.serde_json.specs.Read.{read}

abbrev pub reading : List ℕ → Option Data
reading bytes = if is_utf8 bytes then read bytes else None
