use Rattle.aas_rows.proofs.Counting.{have_child_count}
use Rattle.aas_rows.proofs.child_count.Goals as goal

pub returns : goal.returns
returns c = have_child_count
