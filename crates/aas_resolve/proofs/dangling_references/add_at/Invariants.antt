use Rattle.std.proofs.Common.{◌≡◌, ◌++◌, map, take}
use Rattle.aas_resolve.specs.Dangling.{at_place}
use Rattle.aas_resolve.proofs.dangling_references.add_at.Given as goal

abbrev pub invariant-loop-key : goal.invariant-loop-key
invariant-loop-key g l =
    l.found ≡ l.initial.found ++ map (at_place l.collection l.id l.path.steps) (take l.key-index l.key-items)
