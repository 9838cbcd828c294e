use Rattle.std.proofs.Common.{sym, ap, ◌∙◌}
use Rattle.std.specs.Prelude.{bytes_eq}
use Rattle.aas_value_patch.proofs.Children.{called_formless, called_kid}
use Rattle.aas_value_patch.proofs.sent.is_called.Goals as goal

pub returns-then-not-has_form : goal.returns-then-not-has_form
returns-then-not-has_form c =
    called_formless c.args.name.now c.args.kid.now (sym c.has_form.ensures ∙ c.if-not-has_form.true)

pub returns-in-None : goal.returns-in-None
returns-in-None c =
    called_kid c.args.name.now c.args.kid.now _ (sym c.has_form.ensures ∙ c.if-not-has_form.false) c.in-None.is

pub returns-in-Some : goal.returns-in-Some
returns-in-Some c = c.eq.ensures ∙ ap (bytes_eq c.args.name.now) c.as_str.ensures.bytes
    ∙ called_kid c.args.name.now c.args.kid.now _ (sym c.has_form.ensures ∙ c.if-not-has_form.false) c.in-Some.is
