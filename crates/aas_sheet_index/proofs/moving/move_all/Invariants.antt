use Rattle.std.proofs.Common.{◌≡◌, ◌++◌, drop, map, take}
use Rattle.aas_sheet_index.specs.Moving.{moved}
use Rattle.aas_sheet_index.proofs.moving.move_all.Given as goal

abbrev pub invariant-loop-i : goal.invariant-loop-i
invariant-loop-i l =
    l.ranks ≡ map (moved l.first l.end l.count l.total) (take l.i l.initial.ranks) ++ drop l.i l.initial.ranks
