use Rattle.std.proofs.Common.{◌≡◌, ◌∙◌, sym, rules}
use Rattle.aas_reference.specs.Same.{same}
use Rattle.aas_reference.proofs.Sameness.{same_tells}
use Rattle.aas_reference.proofs.compare.same.Goals as goal

pub returns-then-eq-clause-equal : goal.returns-then-eq-clause-equal
returns-then-eq-clause-equal c =
    let value : c.same_keys.result ≡ same c.args.a.now c.args.b.now = search rules in
    let tells = same_tells c.args.a.now c.args.b.now in
    (λ e. tells.0 (sym value ∙ e), λ s. value ∙ tells.1 s)
