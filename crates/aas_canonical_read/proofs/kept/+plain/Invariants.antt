use Rattle.std.proofs.Common.{◌+◌, ◌*◌}
use Rattle.aas_canonical_read.proofs.kept.+plain.Given as goal

abbrev pub decreases-read_plain : goal.decreases-read_plain
decreases-read_plain l = 3 * l.left

abbrev pub decreases-read_pair : goal.decreases-read_pair
decreases-read_pair l = 3 * l.left + 1

abbrev pub decreases-read_plains : goal.decreases-read_plains
decreases-read_plains l = 3 * l.left + 2

abbrev pub decreases-read_pairs : goal.decreases-read_pairs
decreases-read_pairs l = 3 * l.left + 2
