use Rattle.std.proofs.Common.{sym, ap, ◌∙◌}
use Rattle.std.specs.Str.{chars}
use Rattle.aas_model_text.proofs.Texts.{bytes_of_chars, scalars_of_chars}
use Rattle.aas_model_text.proofs.text.Text.as_str.Goals as goal

pub returns-clause-bytes : goal.returns-clause-bytes
returns-clause-bytes c = bytes_of_chars c.as_str.result.now c.args.self.now c.as_str.utf8 (sym c.self.view_is ∙ ap chars (sym c.as_str.ensures.value))

pub returns-clause-scalars : goal.returns-clause-scalars
returns-clause-scalars c = scalars_of_chars c.as_str.result.now c.args.self.now c.as_str.utf8 (sym c.self.view_is ∙ ap chars (sym c.as_str.ensures.value))
