use Rattle.std.proofs.Common.{◌≡◌, drop}
use Rattle.aas_store.specs.Reads.{first_semantic_id}
use Rattle.aas_store.proofs.reads.first_semantic_id.Given as goal

abbrev pub invariant-loop-kid : goal.invariant-loop-kid
invariant-loop-kid l = first_semantic_id l.kids ≡ first_semantic_id (drop l.kid-index l.kids)
