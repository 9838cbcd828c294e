use Rattle.std.proofs.Common.{◌≡◌, drop}
use Rattle.aas_path.specs.Walk.{left_of, met_all}
use Rattle.aas_path_trees.specs.Patched.{kinds_of_all}
use Rattle.aas_path.proofs.patches.+fits.Given as goal

abbrev pub invariant-meet_all-loop-kid : goal.invariant-meet_all-loop-kid
invariant-meet_all-loop-kid l = met_all (kinds_of_all l.initial.kids) (left_of l.rows l.initial.ahead) ≡ met_all (kinds_of_all (drop l.kid-index l.kids)) (left_of l.rows l.ahead)
