use Rattle.std.proofs.Common.{◌≡◌, true, is_some, map, drop}
use Rattle.aas_target.specs.Routes.{texts_of}
use Rattle.aas_target.specs.Seen.{segment_of}
use Rattle.aas_target.proofs.found.have.Given as goal

abbrev pub invariant-loop-index : goal.invariant-loop-index
invariant-loop-index l = is_some (texts_of (map segment_of (drop l.index l.segments)) (map (λ text. text.now) (drop l.index l.texts))) ≡ true
