use Rattle.aas_path.proofs.NameSteps.{cut_name}
use Rattle.aas_path.proofs.parsing.name_step.Goals as goal

pub returns-in-Ok-name_of : goal.returns-in-Ok-name_of
returns-in-Ok-name_of c = cut_name c.args.text.now c.in-Ok-name_of.name c.in-Ok.len c.in-Ok-name_of.ensures c.in-Ok.ensures.1 c.in-Ok.ensures.2
