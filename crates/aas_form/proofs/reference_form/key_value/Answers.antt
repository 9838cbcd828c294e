use Rattle.std.proofs.Common.{[], unwrap_or, sym, ap, ◌∙◌}
use Rattle.std.proofs.lemmas.Str.{chars-nil}
use Rattle.aas_form.specs.ReferenceTo.{key_value}
use Rattle.aas_form.proofs.reference_form.key_value.Goals as goal

pub returns-in_ok-from_str-in-None : goal.returns-in_ok-from_str-in-None
returns-in_ok-from_str-in-None c =
    c.in_ok-from_str-in-None.ensures.characters ∙ chars-nil
    ∙ sym (ap (λ o. unwrap_or o []) c.in-None.is) ∙ ap (λ l. key_value l c.args.place c.args.element.now) (sym c.if-in_list.false)
