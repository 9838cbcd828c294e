use Rattle.aas_sheet_index.specs.Index.{Listed}
use Rattle.aas_sheet_index.proofs.listing.ranks_of.Given as goal

abbrev pub invariant-loop-rank : goal.invariant-loop-rank
invariant-loop-rank l = Listed l.sides l.first l.rank l.ranks.items
