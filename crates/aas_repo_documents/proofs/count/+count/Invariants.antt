use Rattle.std.proofs.Common.{◌≡◌, ◌+◌, length, drop}
use Rattle.aas_path_trees.specs.Patched.{kinds_of_all}
use Rattle.aas_repo_documents.proofs.count.+count.Given as goal

abbrev pub invariant-count_off_all-loop-kid : goal.invariant-count_off_all-loop-kid
invariant-count_off_all-loop-kid l =
    l.left + length (kinds_of_all l.kids) ≡ l.initial.left + length (kinds_of_all (drop l.kid-index l.kids))
