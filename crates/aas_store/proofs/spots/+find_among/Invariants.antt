use Rattle.std.proofs.Common.{length}
use Rattle.aas_store.proofs.spots.+find_among.Given as goal

abbrev pub decreases-find_among : goal.decreases-find_among
decreases-find_among l = length l.path.now
