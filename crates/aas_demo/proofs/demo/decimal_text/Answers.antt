use Rattle.std.proofs.Common.{arith}
use Rattle.std.proofs.lemmas.Result.{IfOk-weaker}
use Rattle.aas_demo.proofs.Texts.{decimal_chars}
use Rattle.aas_demo.proofs.demo.decimal_text.Goals as goal

pub returns : goal.returns
returns c = IfOk-weaker c.from_str.result _ _
    (λ text is. decimal_chars text c.format.result.now c.args.number (omega (arith, c.ranges.number.fits)) c.format.ensures.text is)
    c.from_str.ensures.characters
