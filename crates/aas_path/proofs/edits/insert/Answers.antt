use Rattle.aas_path.proofs.Kept.{kept}
use Rattle.aas_path.proofs.edits.insert.Goals as goal

pub returns-in-Ok-clause-same : goal.returns-in-Ok-clause-same
returns-in-Ok-clause-same c = kept c.add_child.result c.args.submodel.now c.args.path.now.steps c.in-Ok.parent.now c.add_child.new.parent c.in-Ok.ensures.found c.add_child.ensures.same
