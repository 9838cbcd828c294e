use Rattle.std.proofs.Common.{◌≡◌, length}
use Rattle.std.specs.List.{filter}
use Rattle.aas_sheet_index.specs.Moving.{is_other}
use Rattle.aas_sheet_index.proofs.Dropped.{GatheredAt}
use Rattle.aas_sheet_index.proofs.moving.drop_rank.Given as goal

abbrev pub invariant-loop-ranks : goal.invariant-loop-ranks
invariant-loop-ranks l = record {
  gathered : GatheredAt l.rank l.place l.ranks.items;
  same : filter (is_other l.rank) l.ranks.items ≡ filter (is_other l.rank) l.initial.ranks.items;
}

abbrev pub decreases-loop-ranks : goal.decreases-loop-ranks
decreases-loop-ranks l = length l.ranks.items
