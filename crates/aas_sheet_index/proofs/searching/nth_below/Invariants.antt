use Rattle.std.proofs.Common.{◌≡◌, ◌≤◌, ◌-◌}
use Rattle.aas_sheet_index.specs.Sides.{is_below}
use Rattle.aas_sheet_index.proofs.Counted.{nth_from}
use Rattle.aas_sheet_index.proofs.searching.nth_below.Given as goal

abbrev pub invariant-loop-rank : goal.invariant-loop-rank
invariant-loop-rank l =
    nth_from (is_below l.level) l.sides l.end l.first l.place ≡ nth_from (is_below l.level) l.sides l.end l.rank l.left

abbrev pub decreases-loop-rank : goal.decreases-loop-rank
decreases-loop-rank l = l.end - l.rank

abbrev pub invariant-loop-left : goal.invariant-loop-left
invariant-loop-left l = record {
  same : nth_from (is_below l.level) l.sides l.end l.first l.place
      ≡ nth_from (is_below l.level) l.sides l.end l.rank l.left;
  on : l.initial.rank ≤ l.rank;
}

abbrev pub decreases-loop-left : goal.decreases-loop-left
decreases-loop-left l = l.left
