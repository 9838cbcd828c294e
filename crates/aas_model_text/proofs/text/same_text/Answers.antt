use Rattle.std.proofs.Common.{◌∙◌}
use Rattle.std.specs.Str.{chars}
use Rattle.aas_model_text.proofs.Texts.{bytes_eq-chars, Decides-bytes_eq}
use Rattle.aas_model_text.proofs.text.same_text.Goals as goal

pub returns-clause-value : goal.returns-clause-value
returns-clause-value c = c.eq.ensures ∙ bytes_eq-chars c.args.a.now c.args.b.now c.utf8.a c.utf8.b

pub returns-clause-equal : goal.returns-clause-equal
returns-clause-equal c = Decides-bytes_eq c.eq.result (chars c.args.a.now) (chars c.args.b.now) (returns-clause-value c)
