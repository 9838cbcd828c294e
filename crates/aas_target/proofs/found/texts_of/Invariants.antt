use Rattle.std.proofs.Common.{◌≡◌, Some, map, drop}
use Rattle.aas_target.specs.Routes.{texts_of}
use Rattle.aas_target.specs.Seen.{segment_of}
use Rattle.aas_target.proofs.found.texts_of.Given as goal

abbrev pub invariant-loop-index : goal.invariant-loop-index
invariant-loop-index l =
    texts_of (map segment_of (drop l.index l.segments)) (map (λ text. text.now) (drop l.index l.texts))
    ≡ Some (record { id = l.found.0.now; submodel = l.found.1.0.now; path = l.found.1.1.0.now })
