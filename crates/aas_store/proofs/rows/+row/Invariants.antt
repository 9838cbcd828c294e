use Rattle.aas_store.proofs.Rowed.{HasRowsLeft}
use Rattle.aas_store.proofs.rows.+row.Given as goal

abbrev pub invariant-row_among-loop-kid : goal.invariant-row_among-loop-kid
invariant-row_among-loop-kid l = HasRowsLeft l.kids l.level l.rank l.kid-index l.left
