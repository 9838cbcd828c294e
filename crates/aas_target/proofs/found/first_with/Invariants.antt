use Rattle.std.proofs.Common.{◌≡◌, drop, map}
use Rattle.aas_target.specs.Routes.{first_with}
use Rattle.aas_target.proofs.found.first_with.Given as goal

abbrev pub invariant-loop-resource : goal.invariant-loop-resource
invariant-loop-resource l = first_with (drop l.resource-index l.resources) (map (λ text. text.now) l.texts) ≡ first_with l.resources (map (λ text. text.now) l.texts)
