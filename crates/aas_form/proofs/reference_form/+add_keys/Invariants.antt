use Rattle.std.proofs.Common.{length}
use Rattle.aas_form.proofs.reference_form.+add_keys.Given as goal

abbrev pub decreases-add_keys : goal.decreases-add_keys
decreases-add_keys l = length l.path.now
