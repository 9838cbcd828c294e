use Rattle.std.proofs.Common.{◌≡◌, ◌+◌, length, drop}
use Rattle.aas_path_trees.specs.Patched.{kinds_of_all}
use Rattle.aas_value_patch.proofs.gather.+count.Given as goal

abbrev pub invariant-ranks_behind-loop-kid : goal.invariant-ranks_behind-loop-kid
invariant-ranks_behind-loop-kid l =
    l.rank + length (kinds_of_all (drop l.kid-index l.kid-items)) ≡ l.initial.rank + length (kinds_of_all l.kid-items)
