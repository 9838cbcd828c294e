use Rattle.std.proofs.Common.{length}
use Rattle.aas_path.proofs.removal.+remove_among.Given as goal

abbrev pub decreases-remove_among : goal.decreases-remove_among
decreases-remove_among l = length l.path.now
