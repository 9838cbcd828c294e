use Rattle.std.proofs.Common.{◌≡◌, ◌∙◌, None, rules}
use Rattle.aas_lexical.proofs.NativesExact.{whole_beyond}
use Rattle.aas_lexical.proofs.value.whole.Goals as goal

pub returns-in_err-value : goal.returns-in_err-value
returns-in_err-value c =
    let none : c.from_residual.result ≡ None = search rules in
    none ∙ whole_beyond c.args.text.now c.in_err-value.ensures.none
