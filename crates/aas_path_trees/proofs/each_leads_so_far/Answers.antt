use Rattle.aas_path_trees.proofs.Depth.{leads_so_far}
use Rattle.aas_path_trees.proofs.each_leads_so_far.Goals as goal

pub returns : goal.returns
returns c = leads_so_far
