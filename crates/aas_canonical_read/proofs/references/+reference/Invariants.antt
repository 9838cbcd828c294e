use Rattle.std.proofs.Common.{◌+◌, ◌*◌}
use Rattle.aas_canonical_read.proofs.references.+reference.Given as goal

abbrev pub decreases-read_reference : goal.decreases-read_reference
decreases-read_reference l = 2 * l.left

abbrev pub decreases-read_referred : goal.decreases-read_referred
decreases-read_referred l = 2 * l.left + 1
