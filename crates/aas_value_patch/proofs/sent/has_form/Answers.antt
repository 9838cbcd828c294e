use Rattle.std.proofs.Common.{sym}
use Rattle.aas_model_names.specs.declared.modifiers.Extent.TheVariants as extent
use Rattle.aas_value_patch.proofs.sent.has_form.Goals as goal

pub returns : goal.returns
returns c = sym (c.has_value_form.ensures extent.WithBlobValue c.args.kid.now (sym c.kind.ensures))
