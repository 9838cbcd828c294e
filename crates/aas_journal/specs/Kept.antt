-- What a journal keeps, and what has room in it. This profile's own rule.
use Rattle.std.specs.Prelude.{◌≡◌, ℕ, ◌+◌, ◌<◌, ◌^◌, Bool, IsTrue, nat_le, List, length, Option, Some}
use Rattle.std.proofs.Common.{ap, arith}
use Rattle.std.proofs.lemmas.Bool.Decides.{nat_tests}
use Rattle.aas_outside_disk.specs.Files.{Files}
use Rattle.aas_outside_disk.specs.declared.part.Part.{Part}
use Rattle.aas_journal.specs.Bank.{IsBankImage, chosen}
use Rattle.aas_journal.specs.Image.{gate_of}

-- The files are told and are the image of these payloads, and the closed gate behind them stands at this place of this
-- file, which is the chosen one. Whatever a stop now leaves has the same selector.
pub record Keeps (seen : Option Files) (images : Files → Type 0) (part : Part) (gate : ℕ) (payloads : List (List ℕ)) :
    Type 0 where
  pub files : Files
  pub told : seen ≡ Some files
  pub image : IsBankImage files payloads
  pub gate_is : gate ≡ gate_of payloads (length payloads)
  pub part_is : part ≡ chosen files.selector
  pub selectors : (left : Files) → images left → left.selector ≡ files.selector

-- the most bytes that a journal writes to a file
abbrev pub most_bytes : ℕ
most_bytes = 268435456

-- behind a closed gate there is room for the length, a payload of n bytes and one more gate
abbrev pub fits : ℕ → ℕ → Bool
fits gate n = nat_le (gate + n + 6) most_bytes

abbrev pub has_room_behind : List (List ℕ) → ℕ → Bool
has_room_behind payloads n = fits (gate_of payloads (length payloads)) n

pub room_law : (seen : Option Files) (images : Files → Type 0)
    (part : Part) (gate : ℕ) (payloads : List (List ℕ)) (n : ℕ)
    → Keeps seen images part gate payloads → fits gate n ≡ has_room_behind payloads n
room_law seen images part gate payloads n keeps = ap (λ (place : ℕ). fits place n) keeps.gate_is

pub limit_law : (gate n : ℕ) → IsTrue (fits gate n) → n < 2 ^ 32
limit_law gate n room = grind (arith, nat_tests)
