use Rattle.std.proofs.Common.{◌≡◌, ◌+◌, length, drop}
use Rattle.aas_store.specs.Spots.{elements_of_all}
use Rattle.aas_store.proofs.spots.+behind.Given as goal

abbrev pub invariant-behind_all-loop-kid : goal.invariant-behind_all-loop-kid
invariant-behind_all-loop-kid l = l.rank + length (elements_of_all (drop l.kid-index l.kids)) ≡ l.first + length (elements_of_all l.kids)
