use Rattle.std.proofs.Common.{length}
use Rattle.aas_sheet_index.proofs.merging.+merge.Given as goal

abbrev pub decreases-merge : goal.decreases-merge
decreases-merge l = length l.ranks.now
