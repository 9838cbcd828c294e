use Rattle.aas_path_trees.proofs.OnePath.{one_path}
use Rattle.aas_path_trees.proofs.each_has_one_path.Goals as goal

pub returns : goal.returns
returns c = one_path
