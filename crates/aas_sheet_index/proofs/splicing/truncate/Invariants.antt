use Rattle.std.proofs.Common.{◌≡◌, ◌≤◌, length, take}
use Rattle.aas_sheet_index.proofs.splicing.truncate.Given as goal

abbrev pub invariant-loop-items : goal.invariant-loop-items
invariant-loop-items g l =
    record { long : l.count ≤ length l.items; same : take l.count l.items ≡ take l.count l.initial.items }

abbrev pub decreases-loop-items : goal.decreases-loop-items
decreases-loop-items g l = length l.items
