use Rattle.std.proofs.lemmas.Grind.{common_steps}
use Rattle.std.proofs.Common.{arith}
use Rattle.aas_value.proofs.Forms.{name_out}
use Rattle.aas_value.proofs.form.+value.Goals as goal

pub named_values-loop-kid-preserved : goal.named_values-loop-kid-preserved
named_values-loop-kid-preserved t c = grind (arith, common_steps, name_out c.args.extent c.kid-item.result)
