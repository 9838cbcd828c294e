use Rattle.std.proofs.Common.{◌≡◌, ◌∷◌, suc, ◌+◌, take, drop, ap, sym, ◌∙◌, arith, rules}
use Rattle.std.proofs.lemmas.List.{take_rest}
use Rattle.form_urlencoded.specs.Form.{split}
use Rattle.aas_target.proofs.Splits.{split_at, split_nowhere}
use Rattle.aas_target.proofs.found.cut.Goals as goal

pub returns-in-Some : goal.returns-in-Some
returns-in-Some c =
    let bytes = c.args.bytes.now in
    let place = c.in-Some.place in
    let next : suc place ≡ place + 1 = omega arith in
    split_at c.args.separator bytes place (search rules) (search rules) (search rules)
    ∙ ap (λ n. take place bytes ∷ split c.args.separator (drop n bytes)) next
    ∙ ap (λ rest. take place bytes ∷ split c.args.separator rest) (sym (take_rest bytes (place + 1)))

pub returns-in-None : goal.returns-in-None
returns-in-None c = split_nowhere c.args.separator c.args.bytes.now (search rules)
