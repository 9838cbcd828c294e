-- What a writer does to its output.
use Rattle.std.specs.Prelude.{◌≡◌, ℕ, List, ◌++◌, Result, OnOk, OnErr, ⊤}
use Rattle.std.specs.Str.{IsUtf8}
use Rattle.aas_model_text.specs.declared.NoMemory.{NoMemory}

-- A text of UTF-8 (RFC 8259, section 8.1) was appended; where memory was refused, nothing was.
pub record Writes (text : List ℕ) (result : Result ⊤ NoMemory) (old new : List ℕ) : Type 0 where
  pub utf8 : OnOk result (IsUtf8 text)
  pub appended : OnOk result (new ≡ old ++ text)
  pub unchanged : OnErr result (new ≡ old)
