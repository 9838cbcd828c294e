use Rattle.std.proofs.Common.{arith}
use Rattle.std.proofs.lemmas.Result.{IfOk-weaker}
use Rattle.aas_demo.proofs.Texts.{name_chars}
use Rattle.aas_demo.proofs.demo.name_of.Goals as goal

pub returns : goal.returns
returns c = IfOk-weaker c.from_str-2.result _ _
    (λ name is. name_chars name c.deref.result.now c.args.place (omega (arith, c.ranges.place.fits)) (grind (arith, c.deref.ensures, c.in_ok-push_str.ensures.bytes, c.in_ok-name.ensures.ok, c.format.ensures.text)) is)
    c.from_str-2.ensures.characters
