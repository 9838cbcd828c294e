use Rattle.aas_path.proofs.Kept.{kept}
use Rattle.aas_path.proofs.edits.replace.Goals as goal

pub returns-in-Ok-clause-same : goal.returns-in-Ok-clause-same
returns-in-Ok-clause-same c = kept c.replace_here.result c.args.submodel.now c.args.path.now.steps c.in-Ok.slot.now c.replace_here.new.slot c.in-Ok.ensures.found c.replace_here.ensures.same
