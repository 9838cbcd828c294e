use Rattle.std.proofs.Common.{◌≡◌, true, false, rules}
use Rattle.std.specs.List.Sorted.{IsPartitionPoint}
use Rattle.std.specs.Ordering.{is_lt}
use Rattle.std.proofs.lemmas.List.Sorted.{IsPartitionPoint-from_clause}
use Rattle.aas_sheet_index.specs.Index.{compared, key_at}
use Rattle.aas_sheet_index.specs.Keys.{listed}
use Rattle.aas_sheet_index.proofs.Ordered.{parted}
use Rattle.aas_sheet_index.proofs.order.place_of_key.Goals as goal
use Rattle.aas_sheet_index.proofs.order.place_of_key.Goals.{After-partition_point}

-- where the ranks before it end
here : (c : After-partition_point) → IsPartitionPoint (λ r. is_lt (compared (key_at c.args.sides.now r) r (listed c.args.key.now) c.args.other) ≡ true)
    (λ r. is_lt (compared (key_at c.args.sides.now r) r (listed c.args.key.now) c.args.other) ≡ false) c.args.ranks.now c.partition_point.result
here c =
    IsPartitionPoint-from_clause (λ r. is_lt (compared (key_at c.args.sides.now r) r (listed c.args.key.now) c.args.other))
    _ _ c.partition_point.ensures.partitioned
    (parted c.args.sides.now c.args.ranks.now (record { by = listed c.args.key.now; rank = c.args.other }) c.requires)
    (λ a r q k. search rules)

pub returns-clause-before : goal.returns-clause-before
returns-clause-before c = (here (goal.at.returns-clause-before c).After-partition_point).0

pub returns-clause-behind : goal.returns-clause-behind
returns-clause-behind c = (here (goal.at.returns-clause-behind c).After-partition_point).1
