use Rattle.std.proofs.Common.{◌-◌, length, drop, sym, ap, ◌∙◌, arith}
use Rattle.std.proofs.lemmas.List.{take_all}
use Rattle.std.proofs.Common.{length-drop}
use Rattle.serde_json.specs.View.{items_view}
use Rattle.aas_value.specs.Parts.{items_fit}
use Rattle.aas_value_patch.proofs.Children.{fit_first}
use Rattle.aas_value_patch.proofs.parents.items_behind.Goals as goal

pub returns-in-len1-up-clause-some : goal.returns-in-len1-up-clause-some
returns-in-len1-up-clause-some c = λ xs.
    let vs = c.args.items.now in
    let size = length-drop 1 vs in
    fit_first c.args.kid.now xs vs (sym c.has_form.ensures ∙ c.if-not-has_form.false) (omega arith)
    ∙ ap (λ l. items_fit xs (items_view l)) (sym (take_all (length vs - 1) (drop 1 vs) (omega (arith, size))))
