use Rattle.std.proofs.Common.{◌∙◌, ap, ⊎_elim}
use Rattle.aas_value.proofs.Formless.{has_form, by_kind, other_kinds}
use Rattle.aas_value.proofs.kind.has_value_form.Goals as goal

pub returns-in-Capability : goal.returns-in-Capability
returns-in-Capability c = λ x e is. by_kind x e c.args.kind is ∙ ⊎_elim (λ a. ap has_form a) (λ b. ap has_form b) c.in-Capability.is

pub returns-in_default : goal.returns-in_default
returns-in_default c = λ x e is. by_kind x e c.args.kind is ∙ other_kinds c.args.kind c.in_default.not-Capability c.in_default.not-Operation
