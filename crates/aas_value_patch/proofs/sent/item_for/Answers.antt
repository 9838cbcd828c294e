use Rattle.std.proofs.Common.{sym, ◌∙◌}
use Rattle.serde_json.specs.View.{items_view}
use Rattle.aas_value_patch.proofs.Children.{turn_past}
use Rattle.aas_value_patch.proofs.sent.item_for.Goals as goal

pub returns-then-not-has_form : goal.returns-then-not-has_form
returns-then-not-has_form c = λ cs.
    turn_past c.args.kid.now cs (items_view c.args.items.now) (sym c.has_form.ensures ∙ c.if-not-has_form.true)
