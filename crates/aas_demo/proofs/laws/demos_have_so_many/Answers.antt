use Rattle.aas_demo.proofs.Valid.{have_so_many}
use Rattle.aas_demo.proofs.laws.demos_have_so_many.Goals as goal

pub returns : goal.returns
returns c = have_so_many
