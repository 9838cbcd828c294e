use Rattle.std.proofs.Common.{◌≡◌}
use Rattle.std.specs.List.{filter}
use Rattle.aas_sheet_index.specs.Moving.{stays}
use Rattle.aas_sheet_index.proofs.moving.drop_each.Given as goal

abbrev pub invariant-loop-rank : goal.invariant-loop-rank
invariant-loop-rank l = l.ranks.items ≡ filter (stays l.first l.rank) l.initial.ranks.items
