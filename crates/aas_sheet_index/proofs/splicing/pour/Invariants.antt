use Rattle.std.proofs.Common.{◌≡◌, ◌≤◌, ◌++◌, length, reverse, take}
use Rattle.aas_sheet_index.proofs.splicing.pour.Given as goal

abbrev pub invariant-loop-more : goal.invariant-loop-more
invariant-loop-more g l = record {
  long : length l.initial.items ≤ length l.items;
  kept : take (length l.initial.items) l.items ≡ l.initial.items;
  whole : l.initial.items ++ reverse l.initial.more ≡ l.items ++ reverse l.more;
}

abbrev pub decreases-loop-more : goal.decreases-loop-more
decreases-loop-more g l = length l.more
