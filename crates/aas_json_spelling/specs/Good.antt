-- What is good as a member of a type: it says itself, fits, is not too deep and in order. What spells a whole tree is good, and what is good spells a whole tree.
use Rattle.std.specs.Prelude.{◌≡◌, Option, None, option_and_then, IfSome}
use Rattle.serde_json.specs.Data.{Data}
use Rattle.aas_json_table.specs.Table.{MemberType}
use Rattle.aas_json_table.specs.Misfit.{misfit}
use Rattle.aas_json_table.specs.TooDeep.{Levels, too_deep}
use Rattle.aas_json_table.specs.Canonical.{canonical}
use Rattle.aas_json_spelling.specs.Values.{IsOrdered}

-- an attribute, where so many levels are left
pub record Good (levels : Levels) (f : MemberType) (o : Option Data) : Type 0 where
  pub again : option_and_then (canonical f) o ≡ o
  pub fits : option_and_then (misfit f) o ≡ None
  pub low : option_and_then (λ d. too_deep f d levels) o ≡ None
  pub order : IfSome o IsOrdered
