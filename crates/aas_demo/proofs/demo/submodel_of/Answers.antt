use Rattle.std.proofs.Common.{arith}
use Rattle.aas_demo.proofs.Texts.{urn_chars}
use Rattle.aas_demo.proofs.demo.submodel_of.Goals as goal

pub returns : goal.returns
returns c = grind (arith, c.in_ok-from_str.ensures.characters, c.with_id.ensures, c.empty.ensures, c.new.ensures, c.in_ok-properties.ensures, urn_chars)
