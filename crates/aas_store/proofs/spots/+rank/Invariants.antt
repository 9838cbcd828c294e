use Rattle.aas_store.proofs.Listed.{HasLeft}
use Rattle.aas_store.proofs.spots.+rank.Given as goal

abbrev pub invariant-of_rank_among-loop-kid : goal.invariant-of_rank_among-loop-kid
invariant-of_rank_among-loop-kid l = HasLeft l.kids l.rank l.kid-index l.left
