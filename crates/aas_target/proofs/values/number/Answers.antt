use Rattle.std.proofs.Common.{◌≡◌, Ok, ap, sym, ◌∙◌, rules}
use Rattle.std.specs.Prelude.{decimal}
use Rattle.std.proofs.lemmas.Fmt.{parse-decimal}
use Rattle.aas_target.proofs.values.number.Goals as goal

pub returns-in_default-clause-none : goal.returns-in_default-clause-none
returns-in_default-clause-none c = λ n small same.
    let is : c.parse.result ≡ Ok n = parse-decimal 64 n c.args.text.now c.parse.result small small same c.parse.ensures.value.0 in
    absurd (cc)

pub returns-else-eq-clause-none : goal.returns-else-eq-clause-none
returns-else-eq-clause-none c = λ n small same.
    let is : c.parse.result ≡ Ok n = parse-decimal 64 n c.args.text.now c.parse.result small small same c.parse.ensures.value.0 in
    let number : c.in-Ok.number ≡ n = cc in
    let written : c.format.result.now ≡ c.args.text.now = c.format.ensures.text ∙ ap decimal number ∙ sym same in
    search rules
