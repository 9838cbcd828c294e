-- Which commands have a frame, and why others have none. This profile's own rule.
use Rattle.std.specs.Prelude.{ℕ, ◌<◌, ◌≤◌, ◌^◌, List, map, length, ⊤}
use Rattle.std.specs.Borrow.{Bor}
use Rattle.std.specs.Str.{IsUtf8}
use Rattle.aas_json_spelling.specs.Lists.{Each}
use Rattle.aas_command.specs.Commands.{tagged_of}
use Rattle.aas_command.specs.declared.command.Command.{Command}
use Rattle.aas_command.specs.declared.encoding.EncodeFault.{EncodeFault}
use Rattle.aas_command.specs.declared.encoding.EncodeFault.TheVariants.{TooLong, NoMemory}

-- a field that can be read again: it is UTF-8, and its length fits four bytes
pub record IsField (content : List ℕ) : Type 0 where
  pub utf8 : IsUtf8 content
  pub short : length content < 2 ^ 32

-- each field of the command's payload can be read again
unfoldable pub HasFields : Command → Type 0
HasFields c = Each IsField (tagged_of c).fields

-- a payload is too long from 2^32 bytes on
abbrev pub IsFaultOf : List ℕ → EncodeFault → Type 0
IsFaultOf payload TooLong = 2 ^ 32 ≤ length payload
IsFaultOf payload NoMemory = ⊤

-- what references lead to
abbrev pub lent : List (Bor (List ℕ)) → List (List ℕ)
lent = map (λ c. c.now)
